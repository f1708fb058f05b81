-- What passed between the core and a sink, by the histories of both.
use Rattle.std.specs.Prelude.{◌≡◌, List, ◌++◌, map, flat_map}
use Rattle.px_types.specs.declared.ids.SinkId.{SinkId}
use Rattle.px_annals.specs.declared.entry.CoreEntry.{CoreEntry}
use Rattle.px_annals.specs.declared.entry.LaneEntry.{LaneEntry}
use Rattle.px_annals.specs.declared.stream.PlainStream.{PlainStream}
use Rattle.px_model.specs.Stream.{Stream}
use Rattle.px_model.specs.Message.{Message}
use Rattle.px_model.specs.Notice.{Notice}
use Rattle.px_model.specs.Sink.{Sink}
use Rattle.px_model.specs.Deciding.{messages_of, replay_notices}
use Rattle.px_msg.specs.View.{message_of, notice_of}
use Rattle.px_stream.specs.Plain.{plain_of}
use Rattle.px_stream.specs.Samples.{samples}
use Rattle.px_state.specs.State.{State}
use Rattle.px_core.specs.Hearing.{posted_by_steps}
use Rattle.px_core_cell.specs.Parcel.{spec_of}
use Rattle.px_core_cell.specs.History.{steps_in, noticed_by}
use Rattle.px_lane_cell.specs.Meaning.{history_meant}

-- the front of a list
abbrev pub IsFrontOf : {X : Type 0} → List X → List X → Type 0
IsFrontOf front all = (rest : List _) × (all ≡ front ++ rest)

-- ---- a stream that moves to another sink, as plain numbers and bytes

abbrev pub plain_message : Message Stream → Message PlainStream
plain_message (Message.new n) = Message.new n
plain_message (Message.attach input parcel feed factors) = Message.attach input (plain_of parcel) feed factors
plain_message (Message.detach input) = Message.detach input
plain_message (Message.write w) = Message.write w
plain_message (Message.cork input on) = Message.cork input on
plain_message (Message.flush input) = Message.flush input
plain_message (Message.trigger input) = Message.trigger input
plain_message (Message.prebuf input) = Message.prebuf input
plain_message (Message.drain input tag) = Message.drain input tag
plain_message (Message.attr input attr) = Message.attr input attr
plain_message (Message.factors each) = Message.factors each
plain_message (Message.query input tag) = Message.query input tag

abbrev pub plain_notice : Notice Stream → Notice PlainStream
plain_notice (Notice.request input frames) = Notice.request input frames
plain_notice (Notice.overflow input) = Notice.overflow input
plain_notice (Notice.underflow input) = Notice.underflow input
plain_notice (Notice.started input) = Notice.started input
plain_notice (Notice.drained input tag) = Notice.drained input tag
plain_notice (Notice.detached input parcel) = Notice.detached input (plain_of parcel)
plain_notice (Notice.latency input tag answer) = Notice.latency input tag answer

-- ---- what passed between them

-- the messages that a sink's turns took
abbrev pub messages_taken : List LaneEntry → List (Message PlainStream)
messages_taken entries = map plain_message (flat_map messages_of (history_meant entries))

-- the notices that a sink's turns gave
abbrev pub turn_notices : Sink → List LaneEntry → List (Notice PlainStream)
turn_notices start entries = map plain_notice (replay_notices samples start (history_meant entries))

-- the messages that the core handed out to the sink
abbrev pub messages_handed : State PlainStream → SinkId → List CoreEntry → List (Message PlainStream)
messages_handed began sink entries = map (message_of (λ p. p)) (posted_by_steps spec_of sink began (steps_in entries))

-- the notices of the sink that came to the core
abbrev pub notices_heard : SinkId → List CoreEntry → List (Notice PlainStream)
notices_heard sink entries = map (notice_of (λ p. p)) (noticed_by sink.0 entries)

-- what was taken is a front of what was handed out, in both directions
pub record IsDelivered (began : State PlainStream) (core : List CoreEntry) (sink : SinkId) (start : Sink) (lane : List LaneEntry) : Type 0 where
  pub messages : IsFrontOf (messages_taken lane) (messages_handed began sink core)
  pub notices : IsFrontOf (notices_heard sink core) (turn_notices start lane)
