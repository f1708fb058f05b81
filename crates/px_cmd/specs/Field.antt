-- The fields of a command's packet: their kinds, values, spelling and reading.
use Rattle.std.specs.Prelude.{ℕ, zero, suc, Bool, List, [], ◌∷◌, ◌++◌, length, Option, None, Some, Result, Ok, Err}
use Rattle.std.specs.List.{flat_map}
use Rattle.px_tag.specs.declared.fault.TagFault.{TagFault}
use Rattle.px_tag.specs.declared.fault.TagFault.TheVariants.{Short}
use Rattle.px_tag.specs.declared.raw.RawSpec.{RawSpec}
use Rattle.px_tag.specs.declared.raw.TimeVal.{TimeVal}
use Rattle.px_tag.specs.PropList.{Property}
use Rattle.px_tag.specs.Place.{Place, Reading, ◌>>=◌}
use Rattle.px_tag.specs.Item.{number, flag, text, arbitrary, spec, channel_map, channel_volumes, time, proplist}
use Rattle.px_tag.specs.Reading.{number_at, flag_at, text_at, counted_at, spec_at, map_at, volumes_at, time_at, proplist_at}

-- the bytes of a cookie
abbrev pub cookie_length : ℕ
cookie_length = 256

pub data Kind : Type 0 where
  u32 : Kind
  bool : Kind
  string : Kind
  cookie : Kind
  sample_spec : Kind
  positions : Kind
  volumes : Kind
  time_value : Kind
  properties : Kind
  keys : Kind

pub data Field : Type 0 where
  Number : ℕ → Field
  Flag : Bool → Field
  String : Option (List ℕ) → Field
  Cookie : List ℕ → Field
  SampleSpec : RawSpec → Field
  Positions : List ℕ → Field
  Volumes : List ℕ → Field
  TimeValue : TimeVal → Field
  Properties : List Property → Field
  Keys : List (List ℕ) → Field

-- keys are strings, up to the null string
abbrev pub keys_spelling : List (List ℕ) → List ℕ
keys_spelling list = flat_map (λ key. text (Some key)) list ++ text None

abbrev pub key_then : Option (List ℕ) → Place → Result (List (List ℕ) × Place) TagFault → Result (List (List ℕ) × Place) TagFault
key_then None place others = Ok ([], place)
key_then (Some key) place others = others >>= λ list. Ok (key ∷ list.0, list.1)

-- each key has at least one byte, so the number of bytes bounds the number of keys
unfoldable pub keys_at : ℕ → Reading (List (List ℕ))
keys_at zero place = Err (Short place.size)
keys_at (suc most) place = do
  key ← text_at place
  key_then key.0 key.1 (keys_at most key.1)

abbrev pub spelling : Field → List ℕ
spelling (Number n) = number n
spelling (Flag b) = flag b
spelling (String s) = text s
spelling (Cookie bytes) = arbitrary bytes
spelling (SampleSpec s) = spec s
spelling (Positions list) = channel_map list
spelling (Volumes list) = channel_volumes list
spelling (TimeValue t) = time t
spelling (Properties list) = proplist list
spelling (Keys list) = keys_spelling list

-- the field of this kind at a place
abbrev pub field_at : Kind → Reading Field
field_at u32 place = number_at place >>= λ x. Ok (Number x.0, x.1)
field_at bool place = flag_at place >>= λ x. Ok (Flag x.0, x.1)
field_at string place = text_at place >>= λ x. Ok (String x.0, x.1)
field_at cookie place = counted_at cookie_length place >>= λ x. Ok (Cookie x.0, x.1)
field_at sample_spec place = spec_at place >>= λ x. Ok (SampleSpec x.0, x.1)
field_at positions place = map_at place >>= λ x. Ok (Positions x.0, x.1)
field_at volumes place = volumes_at place >>= λ x. Ok (Volumes x.0, x.1)
field_at time_value place = time_at place >>= λ x. Ok (TimeValue x.0, x.1)
field_at properties place = proplist_at place >>= λ x. Ok (Properties x.0, x.1)
field_at keys place = keys_at (length place.rest) place >>= λ x. Ok (Keys x.0, x.1)

-- fields of these kinds, one after the other
abbrev pub fields_at : List Kind → Reading (List Field)
fields_at [] place = Ok ([], place)
fields_at (kind ∷ kinds) place = field_at kind place >>= λ first. fields_at kinds first.1 >>= λ others. Ok (first.0 ∷ others.0, others.1)
