-- The content of the core's lock.
use Rattle.std.specs.Prelude.{ℕ, Bool, List, map, Option}
use Rattle.px_annals.specs.declared.entry.CoreEntry.{CoreEntry}
use Rattle.px_annals.specs.declared.recorder.RecordFault.{RecordFault}
use Rattle.px_annals.specs.declared.recorder.Recorder.{Ghosts}
use Rattle.px_annals.specs.declared.stream.PlainStream.{PlainStream}
use Rattle.px_state.specs.State.{State}
use Rattle.px_mail.specs.Mailbox.{key_of, posted_by, taken_by, stored_by, found_by}
use Rattle.px_msg.specs.declared.message.Msg.{Msg}
use Rattle.px_msg.specs.declared.notice.Notice.{Notice}
use Rattle.px_sample.specs.declared.spec.Spec.{Spec}
use Rattle.px_core_cell.specs.declared.ends.CoreEnd.{CoreEnd}
use Rattle.px_core_cell.specs.declared.log.StepLog.{StepLog}
use Rattle.px_core_cell.specs.declared.parts.CoreParts.{CoreParts}
use Rattle.px_core_cell.specs.Parcel.{seen_message, seen_notice}

-- the core's ends of a sink's mailboxes: the inbox's key, the messages posted to it, the notices taken from the outbox, and the notice among these
-- that is held: no step has had it yet
pub record SinkEnds : Type 0 where
  pub key : Option Spec
  pub posted : List (Msg PlainStream)
  pub taken : List (Notice PlainStream)
  pub held : Option (Notice PlainStream)

-- the record of its passes: for each post to the inbox whether the message was stored, and for each take from the outbox whether it found a notice
pub record Calls : Type 0 where
  pub stored : List Bool
  pub found : List Bool

-- the core, its recorder with the recorder's first fault, the number of steps done, and whether a sweep is owed
pub record Logged (C : Type 0) : Type 0 where
  pub state : State PlainStream
  pub recorder : C
  pub fault : Option RecordFault
  pub steps : ℕ
  pub owed : Bool

-- with its ends in the order of the sinks
pub record Cell (C : Type 0) : Type 0 where
  pub logged : Logged C
  pub ends : List SinkEnds

abbrev pub ends_of : CoreEnd → SinkEnds
ends_of e = record {
  key = key_of e.post.pass;
  posted = map seen_message (posted_by e.post.pass);
  taken = map seen_notice (taken_by e.take.pass);
  held = e.held;
}

abbrev pub logged_of : {C : Type 0} {R : Ghosts C CoreEntry} → State PlainStream → StepLog C R → Logged C
logged_of state log = record { state = state; recorder = log.recorder; fault = log.fault; steps = log.steps; owed = log.owed }

abbrev pub cell_of : {C : Type 0} {R : Ghosts C CoreEntry} → CoreParts C R → Cell C
cell_of p = record { logged = logged_of p.core.state p.log; ends = map ends_of p.ends.items }

abbrev pub calls_of : CoreEnd → Calls
calls_of e = record { stored = stored_by e.post.pass; found = found_by e.take.pass }

abbrev pub calls_in : {C : Type 0} {R : Ghosts C CoreEntry} → CoreParts C R → List Calls
calls_in p = map calls_of p.ends.items
