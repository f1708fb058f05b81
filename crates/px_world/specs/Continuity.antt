-- The track of an input over a whole run: the stretches of its stream that are settled as played, over all sinks, turn by turn. Own.
use Rattle.std.specs.Prelude.{ℕ, cond, nat_eq, List, [], ◌∷◌, ◌++◌, map, filter, Option, None, Some}
use Rattle.std.specs.List.{slice_get}
use Rattle.px_session.specs.declared.event.Event.{Event}
use Rattle.px_session.specs.declared.event.Event.TheVariants.{Connect, Bytes, Close, Cut, Turn, Collect, Stop}
use Rattle.px_model.specs.Message.{Message}
use Rattle.px_model.specs.Stream.{Stream}
use Rattle.px_model.specs.Sink.{stream_at}
use Rattle.px_model.specs.Deciding.{Entry, turn, stop}
use Rattle.px_model.specs.Track.{Stretch, stretches_from, forward_by}
use Rattle.px_world.specs.World.{World, Mixer}
use Rattle.px_world.specs.Event.{world_after, messages_taken, is_to_stop}

-- ---- what a turn settles

-- a turn, as its sink's history has it
abbrev pub entry_in : Mixer → ℕ → List (Message Stream) → Entry
entry_in m frames messages = cond (is_to_stop m) (stop messages) (turn frames messages)

-- in a turn of a sink the stream that input `i` has there goes forward with the horizon, and settles the frames that it gives
abbrev pub settled_in : Option Mixer → ℕ → List (Message Stream) → ℕ → List Stretch
settled_in None frames messages i = []
settled_in (Some m) frames messages i = stretches_from (stream_at i m.sink.inputs) (forward_by m.sink (entry_in m frames messages))

-- a stretch, and the sink that it is settled at
pub record Settled : Type 0 where
  pub sink : ℕ
  pub stretch : Stretch

abbrev pub at_sink : ℕ → Stretch → Settled
at_sink sink stretch = record { sink = sink; stretch = stretch }

-- turns alone settle anything
abbrev pub settled_by : World → Event → ℕ → List Settled
settled_by w (Connect conn) i = []
settled_by w (Bytes conn bytes) i = []
settled_by w (Close conn) i = []
settled_by w (Cut conn) i = []
settled_by w (Turn sink frames n) i = map (at_sink sink) (settled_in (slice_get w.mixers sink) frames (messages_taken w sink n) i)
settled_by w (Collect sink n) i = []
settled_by w (Stop sink) i = []

-- ---- the track of input `i`

-- all that it settles in a run, over all sinks
abbrev pub track_by : World → List Event → ℕ → List Settled
track_by w [] i = []
track_by w (e ∷ events) i = settled_by w e i ++ track_by (world_after w e) events i

-- its stretches, and those at sink `k`
abbrev pub stretches_of : List Settled → List Stretch
stretches_of track = map (λ x. Settled.stretch x) track

abbrev pub stretches_at : ℕ → List Settled → List Stretch
stretches_at k track = stretches_of (filter (λ x. nat_eq (Settled.sink x) k) track)
