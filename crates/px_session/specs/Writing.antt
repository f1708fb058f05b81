-- The values that the writers can write in a form.
use Rattle.std.specs.Prelude.{◌≡◌, ◌<◌, ◌≤◌, ◌^◌, true, length, Option, None, Some}
use Rattle.std.specs.List.{AllByRecursion}
use Rattle.px_header.specs.declared.header.SinkSpec.{SinkSpec}
use Rattle.px_header.specs.declared.header.Header.{Header}
use Rattle.px_session.specs.declared.event.Event.{Event}
use Rattle.px_session.specs.declared.event.Event.TheVariants.{Bytes, Turn, Collect, Stop}
use Rattle.px_session.specs.declared.event.Step.{Step}
use Rattle.px_session.specs.declared.event.Step.TheVariants as step
use Rattle.px_session.specs.declared.form.Form.{Form}
use Rattle.px_session.specs.Form.{IsCount, most_bytes, has_stop}
use Rattle.px_session.specs.declared.output.OutRecord.{OutRecord}
use Rattle.px_session.specs.declared.output.OutRecord.TheVariants.{Sent}

-- the name's length fits a byte
abbrev pub FitsSink : SinkSpec → Type 0
FitsSink s = length s.name < 2 ^ 8

-- the count of sinks fits a byte, and so does each name's length
pub record FitsHeader (h : Header) : Type 0 where
  pub count : length h.sinks < 2 ^ 8
  pub names : AllByRecursion FitsSink h.sinks

-- each count and each length fits its field, no Bytes event is too long, and the form has Stop where the event is one
abbrev pub FitsEvent : Form → Event → Type 0
FitsEvent form (Bytes conn bytes) = length bytes ≤ most_bytes form
FitsEvent form (Turn sink frames messages) = IsCount form frames × IsCount form messages
FitsEvent form (Collect sink notices) = IsCount form notices
FitsEvent form (Stop sink) = has_stop form ≡ true
FitsEvent form _ = Unit {0}

-- the length of what was sent fits four bytes
abbrev pub FitsRecord : OutRecord → Type 0
FitsRecord (Sent conn bytes) = length bytes.now < 2 ^ 32
FitsRecord _ = Unit {0}

-- a step that a writer can write
abbrev pub FitsStep : Form → Step → Type 0
FitsStep form (step.Header h) = FitsHeader h
FitsStep form (step.Event e) = FitsEvent form e
FitsStep form step.End = Unit {0}

abbrev pub FitsStepBy : Option Form → Step → Type 0
FitsStepBy None s = ⊥
FitsStepBy (Some form) s = FitsStep form s
