-- A sink's mixer with its history and its mailboxes.
use Rattle.std.specs.Prelude.{◌≡◌, ℕ, ◌≤◌, Bool, IsFalse, List, ◌++◌, length, Option, IfSome, MatchOption}
use Rattle.std.specs.Arc.{arc_value}
use Rattle.crossbeam_queue.specs.Passes.{IsPassOf}
use Rattle.px_annals.specs.declared.entry.LaneEntry.{LaneEntry}
use Rattle.px_ends.specs.Device.{DeviceState}
use Rattle.px_mail.specs.Mailbox.{key_of, taken_by, posted_by, found_by, stored_by}
use Rattle.px_msg.specs.declared.message.Msg.{Msg}
use Rattle.px_msg.specs.declared.notice.Notice.{Notice as CodeNotice}
use Rattle.px_msg.specs.Letters.{none_there}
use Rattle.px_msg.specs.View.{sample_spec}
use Rattle.px_sample.specs.declared.spec.Spec.{Spec}
use Rattle.px_model.specs.Stream.{Stream}
use Rattle.px_model.specs.Message.{Message}
use Rattle.px_model.specs.Orderly.{inputs_left_by}
use Rattle.px_model.specs.Sink.{Sink, specs_of}
use Rattle.px_stream.specs.HeldStream.{HeldStream}
use Rattle.px_lane.specs.Lane.{Mixer, IsAttached}
use Rattle.px_lane.specs.Lists.{BoundedMessages, BoundedNotices, messages_of, notices_of}
use Rattle.px_lane_cell.specs.declared.ends.LaneEnds.{LaneEnds}
use Rattle.px_lane_cell.specs.Meaning.{history_meant}
use Rattle.px_lane_cell.specs.History.{IsAfter}
use Rattle.px_lane_cell.specs.Moved.{AreTaken}

pub record Cell (D R : Type 0) : Type 0 where
  pub lane : Mixer D
  pub recorder : R
  pub ends : LaneEnds
  -- messages taken for a turn that wasn't made
  pub messages : BoundedMessages
  -- notices that aren't posted yet
  pub notices : BoundedNotices
  -- how many messages the last turn took
  pub taken : ℕ
  -- how many notices there were after it
  pub given : ℕ

-- ---- its mailboxes

-- what its passes took and posted
abbrev pub taken_in : LaneEnds → List (Msg HeldStream)
taken_in ends = taken_by ends.passes.take.pass

abbrev pub posted_in : LaneEnds → List (CodeNotice HeldStream)
posted_in ends = posted_by ends.passes.post.pass

-- whether each take from its inbox found a message, and whether each post to its outbox stored the notice
abbrev pub found_in : LaneEnds → List Bool
found_in ends = found_by ends.passes.take.pass

abbrev pub stored_in : LaneEnds → List Bool
stored_in ends = stored_by ends.passes.post.pass

-- the sample spec under which the messages of its inbox are lawful
abbrev pub key_in : LaneEnds → Option Spec
key_in ends = key_of ends.passes.take.pass

-- its passes are those of its mailboxes
pub record AreEnds (ends : LaneEnds) : Type 0 where
  pub inbox : IsPassOf (arc_value ends.boxes.inbox).queue ends.passes.take.pass
  pub outbox : IsPassOf (arc_value ends.boxes.outbox).queue ends.passes.post.pass

-- the inbox is that of a sink with this sample spec
abbrev pub IsKeyOf : LaneEnds → Sink → Type 0
IsKeyOf ends sink = MatchOption (key_in ends) ⊥ (λ key. sample_spec key ≡ sink.spec)

-- ---- its invariant

-- the messages taken, without those still held, have left the sink's inputs
pub record HasLeft (sink : Sink) (taken held : List (Message Stream)) : Type 0 where
  pub gone : List (Message Stream)
  pub whole : taken ≡ gone ++ held
  pub inputs : specs_of sink.inputs ≡ inputs_left_by Stream.spec none_there gone

pub record IsCell {D R : Type 0} (now : D → DeviceState) (visible : R → Option (List LaneEntry)) (cell : Cell D R) : Type 0 where
  pub ends : AreEnds cell.ends
  pub key : IsKeyOf cell.ends cell.lane.sink
  pub lawful : AreTaken (key_in cell.ends) (taken_in cell.ends)
  pub few : length cell.messages.messages ≤ 256
  pub room : 256 ≤ cell.messages.capacity
  pub attached : IsFalse cell.lane.sink.stopped → IsAttached (now cell.lane.device) cell.lane.sink
  pub inputs : HasLeft cell.lane.sink (messages_of (taken_in cell.ends)) cell.messages.messages
  -- where its recorder's history is visible: all of it
  pub history : IfSome (visible cell.recorder) (λ entries. IsAfter (now cell.lane.device) cell.lane.sink (history_meant entries)
      (messages_of (taken_in cell.ends)) cell.messages.messages (notices_of (posted_in cell.ends)) cell.notices.notices)
