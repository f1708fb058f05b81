-- The one spelling of each kind of item: its tag byte, and what follows it. Numbers are big-endian.
use Rattle.std.specs.Prelude.{◌≡◌, ℕ, ◌<◌, ◌≤◌, ◌^◌, ℤ, Bool, true, false, not, ◌==◌, IsTrue, List, [], ◌∷◌, ◌++◌, length, All, Option, None, Some}
use Rattle.std.specs.Int.{w32, w64, to_be_bytes, cast_unsigned}
use Rattle.std.specs.List.{flat_map, list_all}
use Rattle.px_tag.specs.PropList.{Property, is_property, is_proplist}
use Rattle.px_tag.specs.declared.raw.RawSpec.{RawSpec}
use Rattle.px_tag.specs.declared.raw.TimeVal.{TimeVal}

-- a u32: L and four bytes
unfoldable pub number : ℕ → List ℕ
number n = 0x4C ∷ to_be_bytes w32 n

-- a u8: B and the byte
unfoldable pub byte : ℕ → List ℕ
byte n = 0x42 ∷ n ∷ []

-- a u64: R and eight bytes
unfoldable pub wide : ℕ → List ℕ
wide n = 0x52 ∷ to_be_bytes w64 n

-- an s64: r and eight bytes, in two's complement
unfoldable pub signed : ℤ → List ℕ
signed z = 0x72 ∷ to_be_bytes w64 (cast_unsigned w64 z)

-- microseconds: U and eight bytes
unfoldable pub usec : ℕ → List ℕ
usec n = 0x55 ∷ to_be_bytes w64 n

-- a volume: V and four bytes
unfoldable pub volume : ℕ → List ℕ
volume n = 0x56 ∷ to_be_bytes w32 n

-- a bool: 1 or 0
unfoldable pub flag : Bool → List ℕ
flag true = 0x31 ∷ []
flag false = 0x30 ∷ []

-- a string: t, its bytes and a zero byte; the null string: N
unfoldable pub text : Option (List ℕ) → List ℕ
text None = 0x4E ∷ []
text (Some bytes) = 0x74 ∷ bytes ++ 0 ∷ []

-- bytes of any kind: x, their number, and the bytes
unfoldable pub arbitrary : List ℕ → List ℕ
arbitrary bytes = 0x78 ∷ to_be_bytes w32 (length bytes) ++ bytes

-- a sample spec: a, format, channels, rate
unfoldable pub spec : RawSpec → List ℕ
spec s = 0x61 ∷ s.format ∷ s.channels ∷ to_be_bytes w32 s.rate

-- a channel map: m, the number of channels, and the position of each
unfoldable pub channel_map : List ℕ → List ℕ
channel_map positions = 0x6D ∷ length positions ∷ positions

-- channel volumes: v, their number, and each in four bytes
unfoldable pub channel_volumes : List ℕ → List ℕ
channel_volumes volumes = 0x76 ∷ length volumes ∷ flat_map (to_be_bytes w32) volumes

-- a time value: T, seconds, microseconds
unfoldable pub time : TimeVal → List ℕ
time t = 0x54 ∷ to_be_bytes w32 t.seconds ++ to_be_bytes w32 t.micros

-- a property: its key, the length of its value, and its value
unfoldable pub property : Property → List ℕ
property p = text (Some p.0) ++ number (length p.1) ++ arbitrary p.1

-- a property list: P, its properties, the null string
unfoldable pub proplist : List Property → List ℕ
proplist list = 0x50 ∷ flat_map property list ++ 0x4E ∷ []

-- ---- values that have a spelling

-- a string has no zero byte
abbrev pub is_text : List ℕ → Bool
is_text bytes = list_all (λ b. not (b == 0)) bytes

abbrev pub IsText : Option (List ℕ) → Type 0
IsText None = Unit {0}
IsText (Some bytes) = IsTrue (is_text bytes)

-- a property list in its written form; a key may be there twice
abbrev pub AreProperties : List Property → Type 0
AreProperties list = IsTrue (list_all is_property list)

abbrev pub IsPropList : List Property → Type 0
IsPropList list = IsTrue (is_proplist list)

abbrev pub AnyFlag : Bool → Type 0
AnyFlag b = Unit {0}

-- the length of an arbitrary fits its count
abbrev pub IsCounted : List ℕ → Type 0
IsCounted bytes = length bytes < 2 ^ 32

abbrev pub HasLength : ℕ → List ℕ → Type 0
HasLength n bytes = length bytes ≡ n

pub record IsSpec (s : RawSpec) : Type 0 where
  pub format : s.format < 2 ^ 8
  pub channels : s.channels ≤ 32
  pub rate : s.rate < 2 ^ 32

pub record IsMap (positions : List ℕ) : Type 0 where
  pub few : length positions ≤ 32
  pub bytes : All (λ p. p < 2 ^ 8) positions

pub record IsVolumes (volumes : List ℕ) : Type 0 where
  pub few : length volumes ≤ 32
  pub each : All (λ v. v < 2 ^ 32) volumes

pub record IsTime (t : TimeVal) : Type 0 where
  pub seconds : t.seconds < 2 ^ 32
  pub micros : t.micros < 2 ^ 32
