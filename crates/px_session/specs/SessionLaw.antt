-- The laws of whole sessions.
use Rattle.std.specs.Prelude.{◌≡◌, ℕ, ◌+◌, List, [], ◌∷◌, ◌++◌, length, Ok}
use Rattle.std.specs.List.{flat_map, AllByRecursion}
use Rattle.px_header.specs.declared.header.Header.{Header}
use Rattle.px_session.specs.declared.event.Event.{Event}
use Rattle.px_session.specs.declared.event.Step.TheVariants as step
use Rattle.px_session.specs.declared.form.Form.{Form}
use Rattle.px_session.specs.Place.{Place, Refusal}
use Rattle.px_session.specs.EventReading.{event_at}
use Rattle.px_header.specs.HeaderRules.{IsHeader}
use Rattle.px_session.specs.EventRules.{IsEvent}
use Rattle.px_session.specs.Session.{Ending, Ended, Broken, EndsSo, Session, NoHeader, Events}
use Rattle.px_session.specs.Spelling as spelling

-- what was read: a lawful header and lawful events, whose spellings begin the bytes, and the ending after them
pub record IsSpelled (bytes : List ℕ) (form : Form) (header : Header) (events : List Event) (ending : Ending) : Type 0 where
  pub header_lawful : IsHeader header
  pub events_lawful : AllByRecursion (IsEvent form) events
  pub rest : List ℕ
  pub at : ℕ
  pub joined : bytes ≡ spelling.header form header ++ (flat_map (spelling.event form) events ++ rest)
  pub place : at + length rest ≡ length bytes
  pub ends : EndsSo form ending (record { at = at; rest = rest })

-- the refusal of a session, if it is refused
abbrev pub IsRefusedBy : Session → Refusal → Type 0
IsRefusedBy (NoHeader refusal) f = refusal ≡ f
IsRefusedBy (Events form header events (Broken refusal)) f = refusal ≡ f
IsRefusedBy (Events form header events Ended) f = ⊥

-- reading these events leads from the one place to the other
abbrev pub Lead : Form → List Event → Place → Place → Type 0
Lead form [] place after = after ≡ place
Lead form (event ∷ events) place after = (mid : Place) × (event_at form place ≡ Ok (step.Event event, mid)) × Lead form events mid after
