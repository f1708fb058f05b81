-- The values of a field of a kind that have a spelling.
use Rattle.std.specs.Prelude.{◌≡◌, ℕ, ◌<◌, ◌≤◌, ◌^◌, List, [], ◌∷◌, ◌++◌, map, Some}
use Rattle.std.specs.List.{flat_map, AllByRecursion}
use Rattle.px_tag.specs.PropList.{Property, meaning as properties_meant}
use Rattle.px_tag.specs.Item.{number, proplist, AreProperties, IsText, HasLength, IsSpec, IsMap, IsVolumes, IsTime, IsPropList}
use Rattle.px_cmd.specs.Field.{Kind, u32, bool, string, cookie, sample_spec, positions, volumes, time_value, properties, keys, Field, Number, Flag, String, Cookie, SampleSpec, Positions, Volumes, TimeValue, Properties, Keys, cookie_length, spelling}
use Rattle.px_cmd.specs.Table.{kinds_of, last_command}

abbrev pub kind_of : Field → Kind
kind_of (Number n) = u32
kind_of (Flag b) = bool
kind_of (String s) = string
kind_of (Cookie bytes) = cookie
kind_of (SampleSpec s) = sample_spec
kind_of (Positions list) = positions
kind_of (Volumes list) = volumes
kind_of (TimeValue t) = time_value
kind_of (Properties list) = properties
kind_of (Keys list) = keys

abbrev pub IsField : Field → Type 0
IsField (Number n) = n < 2 ^ 32
IsField (Flag b) = Unit {0}
IsField (String s) = IsText s
IsField (Cookie bytes) = HasLength cookie_length bytes
IsField (SampleSpec s) = IsSpec s
IsField (Positions list) = IsMap list
IsField (Volumes list) = IsVolumes list
IsField (TimeValue t) = IsTime t
IsField (Properties list) = IsPropList list
IsField (Keys list) = AllByRecursion (λ key. IsText (Some key)) list

-- a command of the table with fields of the kinds that it has at this version
pub record IsCommand (version command tag : ℕ) (fields : List Field) : Type 0 where
  pub known : command ≤ last_command
  pub tagged : tag < 2 ^ 32
  pub kinds : kinds_of version command ≡ Some (map kind_of fields)
  pub each : AllByRecursion IsField fields

-- the bytes of a command's packet
abbrev pub packet_of : ℕ → ℕ → List Field → List ℕ
packet_of command tag fields = number command ++ number tag ++ flat_map spelling fields

-- The bytes spell the field. A property list may be spelled with a key twice: it then means the last value at the first place.
abbrev pub IsSpelledAs : Field → List ℕ → Type 0
IsSpelledAs (Number n) bytes = bytes ≡ spelling (Number n)
IsSpelledAs (Flag b) bytes = bytes ≡ spelling (Flag b)
IsSpelledAs (String s) bytes = bytes ≡ spelling (String s)
IsSpelledAs (Cookie value) bytes = bytes ≡ spelling (Cookie value)
IsSpelledAs (SampleSpec s) bytes = bytes ≡ spelling (SampleSpec s)
IsSpelledAs (Positions list) bytes = bytes ≡ spelling (Positions list)
IsSpelledAs (Volumes list) bytes = bytes ≡ spelling (Volumes list)
IsSpelledAs (TimeValue t) bytes = bytes ≡ spelling (TimeValue t)
IsSpelledAs (Properties list) bytes = (written : List Property) × AreProperties written × (list ≡ properties_meant written) × (bytes ≡ proplist written)
IsSpelledAs (Keys list) bytes = bytes ≡ spelling (Keys list)

-- the bytes spell the fields, one after the other
abbrev pub AreSpelledAs : List Field → List ℕ → Type 0
AreSpelledAs [] bytes = bytes ≡ []
AreSpelledAs (field ∷ fields) bytes = (front : List ℕ) × (rest : List ℕ) × IsSpelledAs field front × AreSpelledAs fields rest × (bytes ≡ front ++ rest)

-- the packet is exactly a command's number, a tag and fields of the kinds that the command has at this version
pub record IsPacketOf (version : ℕ) (packet : List ℕ) (command : ℕ) (fields : List Field) : Type 0 where
  pub tag : ℕ
  pub cells : List ℕ
  pub known : command ≤ last_command
  pub tagged : tag < 2 ^ 32
  pub kinds : kinds_of version command ≡ Some (map kind_of fields)
  pub each : AllByRecursion IsField fields
  pub spelled : AreSpelledAs fields cells
  pub whole : packet ≡ number command ++ number tag ++ cells
