-- The reading of a header: its fields from left to right, each checked once it is whole.
use Rattle.std.specs.Prelude.{ℕ, zero, suc, ◌&&◌, List, [], ◌∷◌, ◌++◌, Option, Some, None, Ok, Err, nat_le, ◌==◌, if◌then◌else◌}
use Rattle.px_sample.specs.declared.format.Format.{Format}
use Rattle.px_sample.specs.declared.spec.Spec.{Spec}
use Rattle.px_header.specs.declared.header.SinkSpec.{SinkSpec}
use Rattle.px_header.specs.declared.header.Header.{Header}
use Rattle.px_session.specs.declared.fault.Cause.TheVariants as cause
use Rattle.px_session.specs.declared.form.Form.{Form}
use Rattle.px_session.specs.declared.form.Form.TheVariants.{One, Two}
use Rattle.px_session.specs.Form.{letter}
use Rattle.px_session.specs.Place.{Place, Reading, Refusal, bytes_at, done, go_on, ◌>>=◌}
use Rattle.px_session.specs.Field.{byte_at, word_at, ruled, broken_at}
use Rattle.px_header.specs.HeaderRules.{is_from_to, is_name, is_new, format_of, is_depth}

abbrev pub no_magic : ℕ → Refusal
no_magic start = record { at = start; cause = cause.Magic }

abbrev pub compared : ℕ → ℕ → ℕ → Reading ℕ
compared start letter byte after = if byte == letter then Ok (byte, after) else Err (no_magic start)

-- a letter of the word that begins at this offset
unfoldable pub letter_at : ℕ → ℕ → Reading ℕ
letter_at start letter place = go_on (byte_at place) (compared start letter)

-- the form with this last letter
abbrev pub form_of : ℕ → Option Form
form_of byte =
    if byte == letter One then Some One
    else if byte == letter Two then Some Two
    else None

abbrev pub formed : ℕ → Option Form → Reading Form
formed start None after = Err (no_magic start)
formed start (Some form) after = Ok (form, after)

-- the last letter of the word that begins at this offset
unfoldable pub last_at : ℕ → Reading Form
last_at start place = go_on (byte_at place) (λ byte. formed start (form_of byte))

-- The word PRS1 or PRS2. A wrong letter is refused at the word's first byte.
unfoldable pub letters_at : ℕ → Reading Form
letters_at start = do
  p ← letter_at start 0x50
  r ← letter_at start 0x52
  s ← letter_at start 0x53
  last_at start

unfoldable pub magic_at : Reading Form
magic_at place = letters_at place.at place

-- the length, and that many bytes
unfoldable pub name_at : List SinkSpec → Reading (List ℕ)
name_at earlier = do
  size ← ruled (is_from_to 1 64) byte_at
  ruled (λ name. is_name name && is_new earlier name) (bytes_at size)

abbrev pub known : Place → Option Format → Reading Format
known place None after = Err (broken_at place)
known place (Some format) after = Ok (format, after)

unfoldable pub format_at : Reading Format
format_at place = go_on (byte_at place) (λ code. known place (format_of code))

unfoldable pub spec_at : Reading Spec
spec_at = do
  format ← format_at
  channels ← ruled (is_from_to 1 32) byte_at
  rate ← ruled (is_from_to 1 192000) word_at
  done (record { format = format; channels = channels; rate = rate })

-- n more items after the earlier ones, which are at hand where an item is read
unfoldable pub more_at : {A : Type 0} → (List A → Reading A) → List A → ℕ → Reading (List A)
more_at item_at earlier zero = done earlier
more_at item_at earlier (suc n) = do
  item ← item_at earlier
  more_at item_at (earlier ++ item ∷ []) n

-- a speaker position, a field by itself
abbrev pub position_at : List ℕ → Reading ℕ
position_at earlier = ruled (λ p. nat_le p 50) byte_at

-- guard and depth, both in frames
pub record Room : Type 0 where
  pub guard : ℕ
  pub depth : ℕ

unfoldable pub room_at : Reading Room
room_at = do
  guard ← word_at
  depth ← ruled (is_depth guard) word_at
  done (record { guard = guard; depth = depth })

unfoldable pub sink_at : List SinkSpec → Reading SinkSpec
sink_at earlier = do
  name ← name_at earlier
  spec ← spec_at
  map ← more_at position_at [] spec.channels
  room ← room_at
  done (record { name = name; spec = spec; map = map; guard = room.guard; depth = room.depth })

-- the form, and the header
unfoldable pub header_at : Reading (Form × Header)
header_at = do
  form ← magic_at
  cookie ← bytes_at 256
  count ← ruled (is_from_to 1 16) byte_at
  sinks ← more_at sink_at [] count
  done (form, record { cookie = cookie; sinks = sinks })
