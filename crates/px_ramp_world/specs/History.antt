-- The history of one sink in a run of a world with ramps, and the turn that decides a frame that it plays.
use Rattle.std.specs.Prelude.{◌≡◌, ℕ, ◌<◌, ◌≤◌, List, [], ◌∷◌, ◌++◌, length, Option, Some, option_map}
use Rattle.std.specs.List.{slice_get}
use Rattle.px_header.specs.declared.header.Header.{Header}
use Rattle.px_header.specs.declared.header.SinkSpec.{SinkSpec}
use Rattle.px_session.specs.declared.event.Event.{Event}
use Rattle.px_msg.specs.View.{sample_spec}
use Rattle.px_model.specs.Frame.{Frame}
use Rattle.px_model.specs.Deciding.{Entry}
use Rattle.px_stream.specs.Samples.{samples}
use Rattle.px_ramp.specs.RampMix.{RampSink, empty_ramp_sink}
use Rattle.px_ramp.specs.Deciding.{frame_ramped, IsLastRamp}
use Rattle.px_world.specs.History.{entries_of, played_on}
use Rattle.px_ramp_world.specs.World.{RampedMixer, RampWorld, new_ramp_world, plain_of}
use Rattle.px_ramp_world.specs.Event.{ramp_world_after}

-- the history of a sink, and all frames that it plays, over the events of a run
abbrev pub ramp_history_by : RampWorld → List Event → ℕ → List Entry
ramp_history_by w [] k = []
ramp_history_by w (e ∷ events) k = entries_of (plain_of w) e k ++ ramp_history_by (ramp_world_after w e) events k

abbrev pub ramp_played_by_run : RampWorld → List Event → ℕ → List Frame
ramp_played_by_run w [] k = []
ramp_played_by_run w (e ∷ events) k = played_on (plain_of w) e k ++ ramp_played_by_run (ramp_world_after w e) events k

-- the sink at an index before its first turn
abbrev pub ramp_begun : SinkSpec → RampSink
ramp_begun s = empty_ramp_sink (sample_spec s.spec) s.guard s.depth

-- the sink at an index, if it is there
abbrev pub ramp_sink_at : RampWorld → ℕ → Option RampSink
ramp_sink_at w k = option_map (λ m. RampedMixer.ramped m) (slice_get w.mixers k)

-- Frame `f` of those that a sink has played, from its start over its history, is what its deciding turn made of it: the mix of the streams after that
-- turn, by the ramps that it left, over n frames
pub record IsRampDecidedIn (n : ℕ) (start : RampSink) (history : List Entry) (played : List Frame) (f : ℕ) : Type 0 where
  -- the sink after that turn: of all turns of the history the last whose horizon is at most `f`
  pub by : RampSink
  pub last : IsLastRamp samples n start history f by
  -- at its end `f` wasn't played yet
  pub early : by.sink.consumed ≤ f
  pub frame : slice_get played f ≡ Some (frame_ramped samples n f by)

-- so is frame `f` that sink `k` plays in a run
abbrev pub IsRampDecided : ℕ → Header → List Event → ℕ → SinkSpec → ℕ → Type 0
IsRampDecided n header events k s f =
    IsRampDecidedIn n (ramp_begun s) (ramp_history_by (new_ramp_world n header) events k) (ramp_played_by_run (new_ramp_world n header) events k) f

-- every frame that a sink plays in a run is what its deciding turn made of it
abbrev pub AreRampDecided : ℕ → Header → List Event → Type 0
AreRampDecided n header events =
    (k : ℕ) (s : SinkSpec) → slice_get header.sinks k ≡ Some s
    → (f : ℕ) → f < length (ramp_played_by_run (new_ramp_world n header) events k) → IsRampDecided n header events k s f
