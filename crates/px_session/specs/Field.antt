-- The fields of a session: a byte, a number of a width, and a field under a rule.
use Rattle.std.specs.Prelude.{ℕ, Bool, Ok, Err, slice_index, if◌then◌else◌}
use Rattle.std.specs.Int.{Width, w32, byte_len, from_be_bytes}
use Rattle.px_session.specs.declared.fault.Cause.TheVariants as cause
use Rattle.px_session.specs.declared.form.Form.{Form}
use Rattle.px_session.specs.Form.{width}
use Rattle.px_session.specs.Place.{Place, Reading, Refusal, bytes_at, done, go_on, ◌>>=◌}

unfoldable pub byte_at : Reading ℕ
byte_at = do
  bytes ← bytes_at 1
  done (slice_index bytes 0)

-- the highest byte first
unfoldable pub number_at : Width → Reading ℕ
number_at w = do
  bytes ← bytes_at (byte_len w)
  done (from_be_bytes w bytes)

-- four bytes
abbrev pub word_at : Reading ℕ
word_at = number_at w32

-- a count or a length
abbrev pub count_at : Form → Reading ℕ
count_at form = number_at (width form)

-- a field of the header that breaks its rule is refused at its first byte
abbrev pub broken_at : Place → Refusal
broken_at place = record { at = place.at; cause = cause.Header }

abbrev pub checked : {A : Type 0} → (A → Bool) → Place → A → Reading A
checked rule place value after = if rule value then Ok (value, after) else Err (broken_at place)

-- a field of the header, which is checked once it is whole
unfoldable pub ruled : {A : Type 0} → (A → Bool) → Reading A → Reading A
ruled rule field_at place = go_on (field_at place) (checked rule place)
