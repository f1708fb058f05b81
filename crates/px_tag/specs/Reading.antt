-- The reading of an item of each kind at a place, and the first fault where there is none.
use Rattle.std.specs.Prelude.{ℕ, zero, suc, ◌+◌, ℤ, Bool, true, false, List, [], ◌∷◌, length, take, position, Option, None, Some, Result, Ok, Err, nat_lt, nat_le, ◌&&◌, ◌==◌, if◌then◌else◌}
use Rattle.std.specs.Int.{Width, w32, w64, byte_len, from_be_bytes, cast_signed}
use Rattle.px_tag.specs.declared.fault.TagFault.{TagFault}
use Rattle.px_tag.specs.declared.fault.TagFault.TheVariants.{WrongTag, Short, BadValue, Left}
use Rattle.px_tag.specs.declared.raw.RawSpec.{RawSpec}
use Rattle.px_tag.specs.declared.raw.TimeVal.{TimeVal}
use Rattle.px_tag.specs.PropList.{Property, is_key, meaning}
use Rattle.px_tag.specs.Place.{Place, Reading, offset_of, past, ◌>>=◌}

-- ---- the parts of items

abbrev pub next_of : List ℕ → Reading ℕ
next_of [] place = Err (Short place.size)
next_of (b ∷ rest) place = Ok (b, record { size = place.size; rest = rest })

-- one byte
unfoldable pub next_at : Reading ℕ
next_at place = next_of place.rest place

-- the place after the wanted tag byte
unfoldable pub tagged_at : ℕ → Place → Result Place TagFault
tagged_at tag place = do
  b ← next_at place
  if b.0 == tag then Ok b.1 else Err (WrongTag (offset_of place))

-- a number without a tag, the highest byte first
unfoldable pub field_at : Width → Reading ℕ
field_at w place = if nat_lt (length place.rest) (byte_len w) then Err (Short place.size) else Ok (from_be_bytes w (take (byte_len w) place.rest), past (byte_len w) place)

-- n bytes without a tag
unfoldable pub bytes_at : ℕ → Reading (List ℕ)
bytes_at n place = if nat_lt (length place.rest) n then Err (Short place.size) else Ok (take n place.rest, past n place)

-- the bytes before the first zero byte, and the place after that
abbrev pub ended_at : Option ℕ → Reading (List ℕ)
ended_at None place = Err (Short place.size)
ended_at (Some zero_byte) place = Ok (take zero_byte place.rest, past (zero_byte + 1) place)

unfoldable pub string_at : Reading (List ℕ)
string_at place = ended_at (position (λ b. b == 0) place.rest) place

-- n numbers of four bytes
unfoldable pub fields_at : ℕ → Reading (List ℕ)
fields_at zero place = Ok ([], place)
fields_at (suc n) place = do
  first ← field_at w32 place
  others ← fields_at n first.1
  Ok (first.0 ∷ others.0, others.1)

-- ---- items

unfoldable pub number_at : Reading ℕ
number_at place = do
  field ← tagged_at 0x4C place
  field_at w32 field

unfoldable pub volume_at : Reading ℕ
volume_at place = do
  field ← tagged_at 0x56 place
  field_at w32 field

unfoldable pub byte_at : Reading ℕ
byte_at place = do
  field ← tagged_at 0x42 place
  next_at field

unfoldable pub wide_at : Reading ℕ
wide_at place = do
  field ← tagged_at 0x52 place
  field_at w64 field

unfoldable pub signed_at : Reading ℤ
signed_at place = do
  field ← tagged_at 0x72 place
  bits ← field_at w64 field
  Ok (cast_signed w64 bits.0, bits.1)

unfoldable pub usec_at : Reading ℕ
usec_at place = do
  field ← tagged_at 0x55 place
  field_at w64 field

unfoldable pub flag_at : Reading Bool
flag_at place = do
  tag ← next_at place
  if tag.0 == 0x31 then Ok (true, tag.1) else if tag.0 == 0x30 then Ok (false, tag.1) else Err (WrongTag (offset_of place))

-- a string, or the null string
unfoldable pub text_at : Reading (Option (List ℕ))
text_at place = do
  tag ← next_at place
  if tag.0 == 0x4E then Ok (None, tag.1) else if tag.0 == 0x74 then (string_at tag.1 >>= λ string. Ok (Some string.0, string.1)) else Err (WrongTag (offset_of place))

unfoldable pub arbitrary_at : Reading (List ℕ)
arbitrary_at place = do
  field ← tagged_at 0x78 place
  count ← field_at w32 field
  bytes_at count.0 count.1

-- bytes of any kind, whose number a rule gives: the count is checked before they are read
unfoldable pub counted_at : ℕ → Reading (List ℕ)
counted_at n place = do
  field ← tagged_at 0x78 place
  count ← field_at w32 field
  if count.0 == n then bytes_at n count.1 else Err (BadValue (offset_of place))

-- a sample spec: it is read whole before its channels are checked
unfoldable pub spec_at : Reading RawSpec
spec_at place = do
  field ← tagged_at 0x61 place
  format ← next_at field
  channels ← next_at format.1
  rate ← field_at w32 channels.1
  if nat_lt 32 channels.0 then Err (BadValue (offset_of place)) else Ok (record { format = format.0; channels = channels.0; rate = rate.0 }, rate.1)

-- a channel map: its count is checked before its positions are read
unfoldable pub map_at : Reading (List ℕ)
map_at place = do
  field ← tagged_at 0x6D place
  count ← next_at field
  if nat_lt 32 count.0 then Err (BadValue (offset_of place)) else bytes_at count.0 count.1

-- channel volumes: their count is checked before they are read
unfoldable pub volumes_at : Reading (List ℕ)
volumes_at place = do
  field ← tagged_at 0x76 place
  count ← next_at field
  if nat_lt 32 count.0 then Err (BadValue (offset_of place)) else fields_at count.0 count.1

unfoldable pub time_at : Reading TimeVal
time_at place = do
  field ← tagged_at 0x54 place
  seconds ← field_at w32 field
  micros ← field_at w32 seconds.1
  Ok (record { seconds = seconds.0; micros = micros.0 }, micros.1)

-- ---- property lists

-- a property's value: its length, and then an arbitrary of that length, at most 65,536 bytes; both are checked before its bytes are read
unfoldable pub value_at : Reading (List ℕ)
value_at place = do
  size ← number_at place
  field ← tagged_at 0x78 size.1
  count ← field_at w32 field
  if (count.0 == size.0) && nat_le size.0 65536 then bytes_at size.0 count.1 else Err (BadValue (offset_of size.1))

-- after a key, which is checked first, its value; the null string ends the list
abbrev pub keyed_at : Place → Option (List ℕ) → Reading (Option Property)
keyed_at start None place = Ok (None, place)
keyed_at start (Some key) place = if is_key key then (value_at place >>= λ value. Ok (Some (key, value.0), value.1)) else Err (BadValue (offset_of start))

-- the next property, or none at the list's end
unfoldable pub property_at : Reading (Option Property)
property_at place = do
  key ← text_at place
  keyed_at place key.0 key.1

-- a property, and those after it; or none
abbrev pub followed_by : Option Property → Place → Result (List Property × Place) TagFault → Result (List Property × Place) TagFault
followed_by None place others = Ok ([], place)
followed_by (Some p) place others = others >>= λ list. Ok (p ∷ list.0, list.1)

-- the properties up to the list's end; each has at least one byte, so the number of bytes bounds their number
unfoldable pub properties_at : ℕ → Reading (List Property)
properties_at zero place = Err (Short place.size)
properties_at (suc most) place = do
  first ← property_at place
  followed_by first.0 first.1 (properties_at most first.1)

-- what the properties up to the list's end mean
abbrev pub listed_at : Reading (List Property)
listed_at place = do
  written ← properties_at (length place.rest) place
  Ok (meaning written.0, written.1)

-- a property list in its written form
unfoldable pub written_at : Reading (List Property)
written_at place = do
  field ← tagged_at 0x50 place
  properties_at (length field.rest) field

-- a property list
unfoldable pub proplist_at : Reading (List Property)
proplist_at place = do
  written ← written_at place
  Ok (meaning written.0, written.1)

-- ---- the end

-- nothing is left
unfoldable pub end_at : Place → Result Unit TagFault
end_at place = if length place.rest == 0 then Ok tt else Err (Left (offset_of place))
