-- The progress of playing an input, and what reading its header and an event leaves.
use Rattle.std.specs.Prelude.{◌≡◌, ◌⊎◌, ℕ, Bool, true, false, List, Option, None, Some, Result, Ok, Err, ⊤}
use Rattle.px_ends.specs.Visible.{before_taking, after_adding, IsAtEnd}
use Rattle.px_types.specs.Faults.{Rose}
use Rattle.px_ends.specs.Whole.{AddsFront}
use Rattle.px_header.specs.declared.header.Header.{Header}
use Rattle.px_session.specs.declared.event.Event.{Event}
use Rattle.px_session.specs.declared.event.Step.{Step}
use Rattle.px_session.specs.declared.event.Step.TheVariants as step
use Rattle.px_session.specs.declared.fault.Cause.TheVariants.{Truncated}
use Rattle.px_session.specs.declared.fault.ReadError.{ReadError}
use Rattle.px_session.specs.declared.fault.ReadError.TheVariants as error
use Rattle.px_session.specs.declared.form.Form.{Form}
use Rattle.px_session.specs.HeaderReading.{header_at}
use Rattle.px_session.specs.Place.{start_of}
use Rattle.px_session.specs.Reader.{Reader, place_with}
use Rattle.px_world.specs.declared.fault.WorldFault.{WorldFault}
use Rattle.px_world.specs.declared.fault.WorldFault.TheVariants.{NoMemory}
use Rattle.px_app.specs.declared.refusal.Refusal.{Refusal}
use Rattle.px_app.specs.declared.refusal.Why.TheVariants as why
use Rattle.px_app.specs.declared.ending.Ending.{Ending}
use Rattle.px_app.specs.declared.ending.Ending.TheVariants as ending
use Rattle.px_app.specs.declared.playing.Playing.{Playing}
use Rattle.px_app.specs.Ends.{Ends}
use Rattle.px_app.specs.Mode.{Mode, parts_by}
use Rattle.px_app.specs.Played.{InputPlayed}
use Rattle.px_app.specs.Refusal.{of_bytes, of_event}
use Rattle.px_app.specs.Session.{Begins, NoneBegins}
use Rattle.px_app.specs.Stage.{EventDone, EventCut}

-- ---- reading

-- what a reader returned, before the header was read and after it
abbrev pub header_step : Result Header ReadError → Result Step ReadError
header_step (Ok header) = Ok (step.Header header)
header_step (Err e) = Err e

abbrev pub event_step : Result (Option Event) ReadError → Result Step ReadError
event_step (Ok (Some e)) = Ok (step.Event e)
event_step (Ok None) = Ok step.End
event_step (Err e) = Err e

-- how a run ends where the reader returns an error
abbrev pub unread : ReadError → Ending
unread (error.Refused at cause) = ending.Refused (of_bytes (record { at = at; cause = cause }))
unread error.Failed = ending.ReadFault
unread error.NoMemory = ending.Memory

-- whether a read has failed where playing ends; no write has failed by then
abbrev pub EndReads : Ending → ℕ → ℕ → Type 0
EndReads ending.ReadFault before now = Rose before now
EndReads ending.WriteFault before now = ⊥
EndReads other before now = now ≡ before

abbrev pub StepReads : {A : Type 0} → Result A Ending → ℕ → ℕ → Type 0
StepReads (Ok done) before now = now ≡ before
StepReads (Err ended) before now = EndReads ended before now

-- ---- the header

-- the bytes that were read are a header, the reader stands after it, and nothing was written
pub record IsOpened (reader : Reader) (header : Header) (before after : Ends) : Type 0 where
  pub bytes : List ℕ
  pub form : Form
  pub departed : before.left ≡ before_taking bytes after.left
  pub head : header_at (start_of bytes) ≡ Ok ((form, header), place_with reader reader.ahead)
  pub begun : reader.begun ≡ Some form
  pub same : after.held ≡ before.held

-- the bytes that were read are refused before they are a header, and nothing was written
pub record IsHeadless (refusal : Refusal) (before after : Ends) : Type 0 where
  pub bytes : List ℕ
  pub departed : before.left ≡ before_taking bytes after.left
  pub none : NoneBegins bytes refusal
  pub at_end : refusal.why ≡ why.Session Truncated → IsAtEnd after.left
  pub same : after.held ≡ before.held

-- some bytes were read, and nothing was written
pub record IsUnwritten (before after : Ends) : Type 0 where
  pub bytes : List ℕ
  pub departed : before.left ≡ before_taking bytes after.left
  pub same : after.held ≡ before.held

-- why no header was read
abbrev pub Unopened : Ending → Ends → Ends → Type 0
Unopened (ending.Refused refusal) before after = IsHeadless refusal before after
Unopened ending.Memory before after = IsUnwritten before after
Unopened ending.ReadFault before after = IsUnwritten before after
Unopened other before after = ⊥

abbrev pub Opened : Result (Reader × Header) Ending → Ends → Ends → Type 0
Opened (Ok (reader, header)) before after = IsOpened reader header before after
Opened (Err ended) before after = Unopened ended before after

-- ---- an event

-- how a fault at an event, whose kind byte is at offset `at`, ends the run
abbrev pub barred : ℕ → ℕ → WorldFault → Ending
barred at number NoMemory = ending.Memory
barred at number fault = ending.Refused (record { at = at; why = why.World fault number })

-- an event ends a run only where it is refused, or memory ran out
abbrev pub IsEventEnd : Ending → Type 0
IsEventEnd (ending.Refused refusal) = ⊤
IsEventEnd ending.Memory = ⊤
IsEventEnd other = ⊥

module _ {W A L : Type 0} (mode : Mode W A L) where
  -- why an event in state `w`, whose kind byte is at offset `at`, ends the run
  abbrev pub EventEnds : Ending → ℕ → L → W → Event → Option (List ℕ) → Option (List ℕ) → Type 0
  EventEnds (ending.Refused refusal) at look w e before now = (fault : WorldFault) × (mode.course.refuses w e ≡ Some fault) × (refusal ≡ of_event at e fault) × (now ≡ before)
  EventEnds ending.Memory at look w e before now = (now ≡ before) ⊎ EventCut mode look w e before now
  EventEnds other at look w e before now = ⊥

  -- it was done, or ended the run
  abbrev pub EventStepped : Result Unit Ending → ℕ → L → W → Event → Option (List ℕ) → Option (List ℕ) → Type 0
  EventStepped (Ok done) at look w e before now = EventDone mode look w e before now
  EventStepped (Err ended) at look w e before now = EventEnds ended at look w e before now

-- ---- the end

-- what is shown after the last event was added, or a front of it
abbrev pub Closes : Ending → List ℕ → Option (List ℕ) → Option (List ℕ) → Type 0
Closes ending.Done part before now = now ≡ after_adding before part
Closes ending.Memory part before now = AddsFront part before now
Closes other part before now = ⊥

abbrev pub IsClosing : Ending → Type 0
IsClosing ending.Done = ⊤
IsClosing ending.Memory = ⊤
IsClosing other = ⊥

-- ---- a run

-- how a run ends once its last piece is written, or isn't: the first cause decides
abbrev pub ending_with : Ending → Bool → Ending
ending_with ending.ReadFault written = ending.ReadFault
ending_with other true = other
ending_with other false = ending.WriteFault

-- `stands` says which stages stand after the events of a session
module _ {T W A L : Type 0} (mode : Mode W A L) (stands : T → L → Header → List Event → Type 0) where
  -- The bytes that were read so far begin with a header and with events that were played: the reader and the stage stand after them, and the output
  -- gained what is shown of them, once what waits is written.
  pub record Reached (asked : A) (playing : Playing T) (first now : Ends) : Type 0 where
    pub bytes : List ℕ
    pub header : Header
    pub events : List Event
    pub look : L
    pub departed : first.left ≡ before_taking bytes now.left
    pub begins : Begins mode.course bytes header events (place_with playing.reader playing.reader.ahead)
    pub begun : playing.reader.begun ≡ Some begins.form
    pub looks : mode.looks asked header ≡ Some look
    pub stage : stands playing.stage look header events
    pub gained : now.held ≡ after_adding first.held (parts_by mode look header events)

  -- a step: it has advanced, or has ended
  abbrev pub Stepped : A → Result Unit Ending → Playing T → Ends → Ends → Type 0
  Stepped asked (Ok done) playing first now = Reached asked playing first now
  Stepped asked (Err ended) playing first now = InputPlayed mode asked ended first now
