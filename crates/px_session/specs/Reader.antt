-- A reader as contracts see it, and how its next step follows from the bytes.
use Rattle.std.specs.Prelude.{◌≡◌, ℕ, List, ◌++◌, Option, Some, Result, Ok, Err}
use Rattle.px_ends.specs.Visible.{before_taking, IsAtEnd, WhereVisible}
use Rattle.px_session.specs.declared.event.Step.{Step}
use Rattle.px_session.specs.declared.event.Step.TheVariants as step
use Rattle.px_session.specs.declared.fault.Cause.TheVariants as cause
use Rattle.px_session.specs.declared.fault.ReadError.{ReadError}
use Rattle.px_session.specs.declared.fault.ReadError.TheVariants as error
use Rattle.px_session.specs.declared.form.Form.{Form}
use Rattle.px_session.specs.Place.{Place, Refusal}
use Rattle.px_session.specs.Session.{step_at}

-- how many bytes of the session were read, those that were taken from the source and not read yet, and the form once the header was read
pub record Reader : Type 0 where
  pub at : ℕ
  pub ahead : List ℕ
  pub begun : Option Form

-- the place of the reader, if these bytes are ahead
abbrev pub place_with : Reader → List ℕ → Place
place_with reader bytes = record { at = reader.at; rest = bytes }

-- all bytes ahead of the reader, where the source's are visible: those taken and not read yet, and those that the source has left
abbrev pub all_ahead : Reader → Option (List ℕ) → Option (List ℕ)
all_ahead reader left = before_taking reader.ahead left

-- this was read, and the reader is now after it, with `bytes` ahead
abbrev pub Stepped : Result Step ReadError → Reader → List ℕ → Result ((Form × Step) × Place) Refusal → Type 0
Stepped (Ok step) new bytes read = (form : Form) × (read ≡ Ok ((form, step), place_with new bytes)) × (new.begun ≡ Some form)
Stepped (Err (error.Refused at cause)) new bytes read = read ≡ Err (record { at = at; cause = cause })
Stepped (Err error.Failed) new bytes read = Unit {0}
Stepped (Err error.NoMemory) new bytes read = Unit {0}

-- the end, and an early end, are answered only where the source has ended
abbrev pub EndsWith : Result Step ReadError → Option (List ℕ) → Type 0
EndsWith (Ok step.End) left = IsAtEnd left
EndsWith (Err (error.Refused at cause.Truncated)) left = IsAtEnd left
EndsWith _ left = Unit {0}

-- some bytes left the source, and the answer is what comes next in those that were taken, however the source goes on
pub record Takes (answer : Result Step ReadError) (old new : Reader) (before after : Option (List ℕ)) : Type 0 where
  pub taken : List ℕ
  pub departed : before ≡ before_taking taken after
  pub stepped : Stepped answer new new.ahead (step_at old.begun (place_with old (old.ahead ++ taken)))
  pub ended : EndsWith answer after

-- the answer is what comes next in all bytes that were ahead of the reader; the reader is now after it, with the rest ahead
abbrev pub Gives : Result Step ReadError → Reader → Reader → Option (List ℕ) → Option (List ℕ) → Type 0
Gives answer old new before after = WhereVisible before (λ bytes. (behind : List ℕ) × (after ≡ Some behind) × Stepped answer new behind (step_at old.begun (place_with old bytes)))
