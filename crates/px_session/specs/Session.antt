-- The whole reading of a list of bytes: a form, a header, events, and the end byte, or the first refusal.
use Rattle.std.specs.Prelude.{◌≡◌, ℕ, List, [], ◌∷◌, Option, None, Some, Ok, Err}
use Rattle.px_header.specs.declared.header.Header.{Header}
use Rattle.px_session.specs.declared.event.Event.{Event}
use Rattle.px_session.specs.declared.event.Step.{Step}
use Rattle.px_session.specs.declared.event.Step.TheVariants as step
use Rattle.px_session.specs.declared.form.Form.{Form}
use Rattle.px_session.specs.Place.{Place, Reading, Refusal, start_of, done, ◌>>=◌}
use Rattle.px_session.specs.HeaderReading.{header_at}
use Rattle.px_session.specs.EventReading.{event_at}

unfoldable pub first_at : Reading (Form × Step)
first_at = do
  first ← header_at
  done (first.0, step.Header first.1)

unfoldable pub later_at : Form → Reading (Form × Step)
later_at form = do
  step ← event_at form
  done (form, step)

-- the form, and what comes next: the header where the form is not known yet, else an event or the end byte
abbrev pub step_at : Option Form → Reading (Form × Step)
step_at None = first_at
step_at (Some form) = later_at form

-- how the events end: with the end byte as the last byte, or with the first refusal
pub data Ending : Type 0 where
  Ended : Ending
  Broken : Refusal → Ending

abbrev pub EndsSo : Form → Ending → Place → Type 0
EndsSo form Ended place = (after : Place) × (event_at form place ≡ Ok (step.End, after))
EndsSo form (Broken refusal) place = event_at form place ≡ Err refusal

-- from the place on come these events, one after the other, and then the ending
abbrev pub Stand : Form → List Event → Ending → Place → Type 0
Stand form [] ending place = EndsSo form ending place
Stand form (event ∷ events) ending place = (after : Place) × (event_at form place ≡ Ok (step.Event event, after)) × Stand form events ending after

-- the meaning of a list of bytes: a refusal within the header, or a form, a header, events and their ending
pub data Session : Type 0 where
  NoHeader : Refusal → Session
  Events : Form → Header → List Event → Ending → Session

abbrev pub IsSession : List ℕ → Session → Type 0
IsSession bytes (NoHeader refusal) = header_at (start_of bytes) ≡ Err refusal
IsSession bytes (Events form header events ending) = (after : Place) × (header_at (start_of bytes) ≡ Ok ((form, header), after)) × Stand form events ending after
