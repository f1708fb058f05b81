-- The result of a look at the bytes at hand.
use Rattle.std.specs.Prelude.{◌≡◌, ◌≢◌, ℕ, ◌≤◌, List, ◌++◌, length, drop, Option, None, Some, Result, Ok, Err}
use Rattle.px_ends.specs.Visible.{before_taking}
use Rattle.px_session.specs.declared.event.Step.{Step}
use Rattle.px_session.specs.declared.event.Step.TheVariants as step
use Rattle.px_session.specs.declared.fault.Cause.TheVariants as cause
use Rattle.px_session.specs.declared.fault.ReadError.{ReadError}
use Rattle.px_session.specs.declared.fault.ReadError.TheVariants as error
use Rattle.px_session.specs.declared.found.Found.{Found}
use Rattle.px_session.specs.declared.form.Form.{Form}
use Rattle.px_session.specs.Place.{Place, Refusal}
use Rattle.px_session.specs.Session.{step_at}
use Rattle.px_session.specs.Reader.{EndsWith}

abbrev pub place_at : ℕ → List ℕ → Place
place_at at bytes = record { at = at; rest = bytes }

-- the form and the step, and the place after it in these bytes
abbrev pub found_in : List ℕ → Found → (Form × Step) × Place
found_in bytes found = ((found.form, found.step), record { at = found.at; rest = drop found.used bytes })

-- what was found, if anything was
abbrev pub step_of : Result Found ReadError → Result Step ReadError
step_of (Ok found) = Ok found.step
step_of (Err e) = Err e

-- this comes next in the bytes, unless reading or memory failed
abbrev pub Finds : Result Found ReadError → List ℕ → Result ((Form × Step) × Place) Refusal → Type 0
Finds (Ok found) bytes read = (read ≡ Ok (found_in bytes found)) × (found.used ≤ length bytes)
Finds (Err (error.Refused at cause)) bytes read = read ≡ Err (record { at = at; cause = cause })
Finds (Err error.Failed) bytes read = Unit {0}
Finds (Err error.NoMemory) bytes read = Unit {0}

-- more bytes may change the answer
abbrev pub IsOpen : Result Found ReadError → Type 0
IsOpen (Ok found) = found.step ≡ step.End
IsOpen (Err e) = (at : ℕ) × (e ≡ error.Refused at cause.Truncated)

-- whatever bytes follow, the answer stays
abbrev pub IsClosed : Result Found ReadError → Type 0
IsClosed (Ok found) = found.step ≢ step.End
IsClosed (Err e) = (at : ℕ) → e ≢ error.Refused at cause.Truncated

-- what was read, unless more bytes may change it
abbrev pub Settles : Option (Result Found ReadError) → Result Found ReadError → Type 0
Settles None read = IsOpen read
Settles (Some answer) read = (answer ≡ read) × IsClosed answer

-- a look reads no source
abbrev pub NeverFails : Result Found ReadError → Type 0
NeverFails (Ok found) = Unit {0}
NeverFails (Err e) = e ≢ error.Failed

-- some bytes left the source and are held, and the answer is what comes next in those that are held
pub record Awaits (answer : Result Found ReadError) (begun : Option Form) (at : ℕ) (old new : List ℕ) (before after : Option (List ℕ)) : Type 0 where
  pub taken : List ℕ
  pub departed : before ≡ before_taking taken after
  pub held : new ≡ old ++ taken
  pub found : Finds answer new (step_at begun (place_at at new))
  pub ended : EndsWith (step_of answer) after
