-- The world of a session whose volumes change by ramps: a plain world whose sinks have ramps beside them. Own: PulseAudio records no sessions.
use Rattle.std.specs.Prelude.{ℕ, Bool, false, List, [], map}
use Rattle.px_header.specs.declared.header.Header.{Header}
use Rattle.px_header.specs.declared.header.SinkSpec.{SinkSpec}
use Rattle.px_model.specs.Stream.{Stream}
use Rattle.px_model.specs.Notice.{Notice}
use Rattle.px_msg.specs.View.{sample_spec}
use Rattle.px_ramp.specs.RampMix.{RampSink, empty_ramp_sink}
use Rattle.px_state.specs.State.{State, new_state}
use Rattle.px_world.specs.World.{World, Link, Mixer}

-- a sink that is mixed by ramps, with its mixer: the notices that the core hasn't taken yet, and whether its device will fail at the next turn; never so of
-- a stopped sink
pub record RampedMixer : Type 0 where
  pub ramped : RampSink
  -- how many frames a ramp takes
  pub ramp : ℕ
  pub notices : List (Notice Stream)
  pub failing : Bool

pub record RampWorld : Type 0 where
  pub core : State Stream
  -- in order of connecting
  pub links : List Link
  -- one a sink, in order of index
  pub mixers : List RampedMixer

abbrev pub new_ramped_mixer : ℕ → SinkSpec → RampedMixer
new_ramped_mixer n s = record { ramped = empty_ramp_sink (sample_spec s.spec) s.guard s.depth; ramp = n; notices = []; failing = false }

-- the world before the first event, for ramps over n frames
abbrev pub new_ramp_world : ℕ → Header → RampWorld
new_ramp_world n header = record { core = new_state header; links = []; mixers = map (new_ramped_mixer n) header.sinks }

-- ---- without its ramps

abbrev pub plain_mixer : RampedMixer → Mixer
plain_mixer m = record { sink = m.ramped.sink; notices = m.notices; failing = m.failing }

-- the plain world with the same frames in its buffers: what an event does outside the mixers is what it does there
abbrev pub plain_of : RampWorld → World
plain_of w = record { core = w.core; links = w.links; mixers = map plain_mixer w.mixers }
