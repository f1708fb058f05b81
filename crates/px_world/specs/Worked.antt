-- Sessions worked by hand: in one a client connects and breaks a rule while a sink plays silence, in one a sink stops. And the track of an input, over a run in
-- which it moves and a sink stops.
use Rattle.std.specs.Prelude.{ℕ, pos, true, false, List, [], ◌∷◌, ◌++◌, replicate}
use Rattle.px_types.specs.declared.ids.ConnId.{ConnId}
use Rattle.px_types.specs.declared.ids.InputId.{InputId}
use Rattle.px_sample.specs.declared.format.Format.TheVariants.{S16Le}
use Rattle.px_header.specs.declared.header.Header.{Header}
use Rattle.px_header.specs.declared.header.SinkSpec.{SinkSpec}
use Rattle.px_session.specs.declared.event.Event.{Event}
use Rattle.px_session.specs.declared.event.Event.TheVariants.{Connect, Bytes, Close, Turn, Collect, Stop}
use Rattle.px_session.specs.Spelling.{word, end_byte}
use Rattle.px_model.specs.declared.data.Attr.{Attr}
use Rattle.px_model.specs.Stream.{Stream}
use Rattle.px_msg.specs.declared.message.Msg.{Msg}
use Rattle.px_msg.specs.declared.message.Msg.TheVariants.{New, Write, Detach}
use Rattle.px_outcome.specs.declared.input.Input.{Input}
use Rattle.px_outcome.specs.declared.input.Way.TheVariants.{Coming}
use Rattle.px_outcome.specs.declared.input.Standing.TheVariants.{Moving}
use Rattle.px_state.specs.State.{new_state}
use Rattle.px_world.specs.World.{World, new_world}
use Rattle.px_world.specs.Continuity.{Settled, at_sink}

-- one sink, "a": mono in 16 bits, with room for four frames in the device's buffer
abbrev pub small_sink : SinkSpec
small_sink = record { name = 97 ∷ []; spec = record { format = S16Le; channels = 1; rate = 44100 }; map = 0 ∷ []; guard = 1; depth = 4 }

abbrev pub small_header : Header
small_header = record { cookie = replicate 256 0; sinks = small_sink ∷ [] }

abbrev pub client : ConnId
client = record { 0 = 7 }

-- the first turn fills the buffer, and the second plays two frames of it. Twenty bytes of 0 are a descriptor of length 0; the bytes after them are
-- outside the session. The sink plays on
abbrev pub small_events : List Event
small_events =
    Connect client ∷ Turn 0 0 0 ∷ Turn 0 2 0 ∷ Bytes client (replicate 20 0) ∷ Bytes client (1 ∷ []) ∷ Turn 0 1 0 ∷ Close client ∷ []

-- two frames are played on sink 0; connection 7 is ended for rule 1, which byte 0 of it breaks; one more frame is played
abbrev pub small_output : List ℕ
small_output =
    (3 ∷ 0 ∷ word 2 ++ replicate 4 0)
    ++ (2 ∷ word 7 ++ 1 ∷ 1 ∷ replicate 8 0)
    ++ (3 ∷ 0 ∷ word 1 ++ replicate 2 0)
    ++ end_byte ∷ []

-- ---- the track of an input

-- a sink like it, "b"
abbrev pub two_sinks : Header
two_sinks = record { cookie = replicate 256 0; sinks = small_sink ∷ record small_sink { name = 98 ∷ [] } ∷ [] }

abbrev pub small_input : InputId
small_input = record { 0 = 3 }

abbrev pub small_attr : Attr
small_attr = record { maxlength = 100; tlength = 8; prebuf = 0; minreq = 1 }

-- an input that doesn't prebuffer, made on the first sink and then moved to the second
abbrev pub moving_input : Input
moving_input = record {
  index = small_input;
  conn = client;
  client = 0;
  stream = 0;
  sink = record { 0 = 0 };
  spec = small_sink.spec;
  map = small_sink.map;
  no_move = false;
  no_remap = false;
  no_remix = false;
  attr = small_attr;
  way = Coming;
  standing = Moving (record { 0 = 1 });
}

-- its messages: it is made, five frames are written to it, and it leaves
abbrev pub small_messages : List (Msg Stream)
small_messages =
    New (record { input = small_input; spec = small_sink.spec; feed = 0 ∷ []; factors = 65536 ∷ []; attr = small_attr; corked = false })
    ∷ Write small_input 0 (pos 0) 5 (replicate 10 0)
    ∷ Detach small_input
    ∷ []

-- they wait for the first sink
abbrev pub small_world : World
small_world = record (new_world two_sinks) {
  core = record (new_state two_sinks) {
    inputs = moving_input ∷ [];
    inputs_made = 4;
    posted = small_messages ∷ [] ∷ [];
    groups =
        record {
          reference = 65536 ∷ [];
          muted = false;
          members =
              record { input = small_input; volume = 65536 ∷ []; ratios = record { reference = 65536 ∷ []; real = 65536 ∷ [] }; muted = false; feed = 0 ∷ [] } ∷ [];
        }
        ∷ record { reference = 65536 ∷ []; muted = false; members = [] }
        ∷ [];
  };
}

-- Two turns of the first sink: one takes the first two messages and fills the buffer, one plays two frames and takes the last. The core collects the
-- notices: a request, that it plays, and the parcel. Two turns of the second sink: one takes the message that brings the stream, one plays two frames.
-- Then its device fails
abbrev pub moving_events : List Event
moving_events =
    Turn 0 0 2 ∷ Turn 0 2 1 ∷ Collect 0 3 ∷ Turn 1 0 1 ∷ Turn 1 2 0 ∷ Stop (record { 0 = 1 }) ∷ Turn 1 0 0 ∷ []

-- One frame past those played can't change, so in each turn that plays two the horizon goes on by three. The first sink settles 0 to 3, and the second the
-- two that are left, 3 to 5, where the read index runs on to 6. There the last turn settles nothing more
abbrev pub small_track : List Settled
small_track =
    at_sink 0 (record { from = pos 0; count = 3; ran_on = false })
    ∷ at_sink 1 (record { from = pos 3; count = 2; ran_on = true })
    ∷ at_sink 1 (record { from = pos 6; count = 0; ran_on = false })
    ∷ []

-- ---- a sink that stops

-- one sink, "out": mono in 16 bits, whose device holds 100 frames, of which the first ten can't change
abbrev pub guarded_sink : SinkSpec
guarded_sink = record { name = 111 ∷ 117 ∷ 116 ∷ []; spec = record { format = S16Le; channels = 1; rate = 48000 }; map = 0 ∷ []; guard = 10; depth = 100 }

abbrev pub stopping_header : Header
stopping_header = record { cookie = replicate 256 0; sinks = guarded_sink ∷ [] }

-- the first turn fills the buffer, and the second finds that the device fails
abbrev pub stopping_events : List Event
stopping_events = Turn 0 0 0 ∷ Stop (record { 0 = 0 }) ∷ Turn 0 0 0 ∷ []

-- sink 0 has stopped, with the ten frames that couldn't change filled
abbrev pub stopping_output : List ℕ
stopping_output = (4 ∷ 0 ∷ replicate 7 0 ++ 10 ∷ []) ++ end_byte ∷ []
