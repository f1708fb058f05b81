-- A place in a session, what is read from there, and how calls answer it.
use Rattle.std.specs.Prelude.{◌≡◌, ℕ, ◌+◌, ◌-◌, ◌^◌, min, List, length, take, drop, Result, Ok, Err, nat_lt, nat_le, if◌then◌else◌}
use Rattle.px_session.specs.declared.fault.Cause.{Cause}
use Rattle.px_session.specs.declared.fault.Cause.TheVariants as cause
use Rattle.px_session.specs.declared.fault.ReadError.{ReadError}
use Rattle.px_session.specs.declared.fault.ReadError.TheVariants as error

-- the offset of the first byte that is left, and the bytes that are left
pub record Place : Type 0 where
  pub at : ℕ
  pub rest : List ℕ

-- the place before a session's first byte
abbrev pub start_of : List ℕ → Place
start_of bytes = record { at = 0; rest = bytes }

-- the place after the next n bytes
abbrev pub past : ℕ → Place → Place
past n place = record { at = place.at + n; rest = drop n place.rest }

-- why bytes are refused, and the offset
pub record Refusal : Type 0 where
  pub at : ℕ
  pub cause : Cause

-- What is read at a place: a value and the place after it, or the first refusal.
abbrev pub Reading : Type 0 → Type 0
Reading A = Place → Result (A × Place) Refusal

-- the value, with the place unchanged
abbrev pub done : {A : Type 0} → A → Reading A
done value place = Ok (value, place)

abbrev pub go_on : {A B : Type 0} → Result (A × Place) Refusal → (A → Reading B) → Result (B × Place) Refusal
go_on (Ok read) next = next read.0 read.1
go_on (Err refusal) next = Err refusal

-- one reading, and past it the next
unfoldable pub and_then : {A B : Type 0} → Reading A → (A → Reading B) → Reading B
and_then first next place = go_on (first place) next

infixl 10 ◌>>=◌
abbrev pub ◌>>=◌ : {A B : Type 0} → Reading A → (A → Reading B) → Reading B
first >>= next = and_then first next

-- the most bytes of a session
abbrev pub limit : ℕ
limit = 2 ^ 40

-- how many of the bytes that are left lie within the limit
abbrev pub available : Place → ℕ
available place = min (length place.rest) (limit - place.at)

-- the refusal where fewer bytes are available than needed: the session goes on at the limit, or the input ends
abbrev pub short_at : Place → Refusal
short_at place =
    if nat_le limit (place.at + length place.rest)
    then record { at = limit; cause = cause.Endless }
    else record { at = place.at + length place.rest; cause = cause.Truncated }

-- n bytes
unfoldable pub bytes_at : ℕ → Reading (List ℕ)
bytes_at n place = if nat_lt (available place) n then Err (short_at place) else Ok (take n place.rest, past n place)

-- this refusal, in place of a field
abbrev pub no_field : Refusal → Result Unit Refusal
no_field refusal = Err refusal

-- A function answered what is read, its value seen by view, unless memory ran out.
abbrev pub Fails : {Y : Type 0} → ReadError → Result Y Refusal → Type 0
Fails (error.Refused at cause) read = read ≡ Err (record { at = at; cause = cause })
Fails error.Failed read = ⊥
Fails error.NoMemory read = Unit {0}

abbrev pub Gives : {X Y : Type 0} → (X → Y) → Result X ReadError → Result Y Refusal → Type 0
Gives view (Ok x) read = read ≡ Ok (view x)
Gives view (Err e) read = Fails e read

-- A call that moves a place answered what is read there, and the place is now after it.
abbrev pub Reads : {X Y : Type 0} → (X → Y) → Result X ReadError → Place → Result (Y × Place) Refusal → Type 0
Reads view (Ok x) after read = read ≡ Ok (view x, after)
Reads view (Err e) after read = Fails e read
