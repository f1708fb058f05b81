-- The world that a recorded session runs in. Own: PulseAudio records no sessions.
use Rattle.std.specs.Prelude.{ℕ, Bool, false, nat_eq, List, [], map, Option, None, Some}
use Rattle.std.specs.List.{find}
use Rattle.px_types.specs.declared.ids.ConnId.{ConnId}
use Rattle.px_header.specs.declared.header.Header.{Header}
use Rattle.px_header.specs.declared.header.SinkSpec.{SinkSpec}
use Rattle.px_model.specs.Stream.{Stream}
use Rattle.px_model.specs.Sink.{Sink, empty_sink}
use Rattle.px_model.specs.Notice.{Notice}
use Rattle.px_msg.specs.View.{sample_spec}
use Rattle.px_state.specs.State.{State, new_state}

-- a live connection's number, and all bytes received from its client
pub record Link : Type 0 where
  pub conn : ConnId
  pub received : List ℕ

-- a sink with its mixer: the notices that the core hasn't taken yet, and whether its device will fail at the next turn; never so of a stopped sink
pub record Mixer : Type 0 where
  pub sink : Sink
  pub notices : List (Notice Stream)
  pub failing : Bool

pub record World : Type 0 where
  pub core : State Stream
  -- in order of connecting
  pub links : List Link
  -- one a sink, in order of index
  pub mixers : List Mixer

abbrev pub new_mixer : SinkSpec → Mixer
new_mixer s = record { sink = empty_sink (sample_spec s.spec) s.guard s.depth; notices = []; failing = false }

-- the world before the first event
abbrev pub new_world : Header → World
new_world header = record { core = new_state header; links = []; mixers = map new_mixer header.sinks }

-- ---- links

abbrev pub is_of : ConnId → Link → Bool
is_of conn link = nat_eq link.conn.0 conn.0

abbrev pub link_of : List Link → ConnId → Option Link
link_of links conn = find (is_of conn) links

-- all bytes received on a link, if it is there
abbrev pub received_of : Option Link → List ℕ
received_of None = []
received_of (Some link) = link.received
