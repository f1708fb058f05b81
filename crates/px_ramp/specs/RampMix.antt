-- A sink whose factors go by ramps, and its turn: the plain turn, but for what is mixed.
use Rattle.std.specs.Prelude.{◌≡◌, ℕ, ◌+◌, ◌-◌, List, [], ◌++◌, map, take, drop, Option, Some, None}
use Rattle.std.specs.List.{range_with_len}
use Rattle.px_model.specs.Frame.{Frame, SampleSpec}
use Rattle.px_model.specs.Stream.{Stream}
use Rattle.px_model.specs.Control.{with_factors}
use Rattle.px_model.specs.Message.{Message}
use Rattle.px_model.specs.Mix.{Samples, mix_of}
use Rattle.px_model.specs.Sink.{Sink, Input, empty_sink, streams_of}
use Rattle.px_model.specs.Turn.{next_horizon, turned, stopped_turn}
use Rattle.px_ramp.specs.declared.ramp.Ramp.{Ramp}
use Rattle.px_ramp.specs.declared.ramps.InputRamps.{InputRamps}
use Rattle.px_ramp.specs.Ramp.{value_at, ramps_at, ramps_with_all}

-- the factors of some ramps at frame f
abbrev pub values_at : ℕ → ℕ → List Ramp → List ℕ
values_at n f ramps = map (λ r. value_at n r f) ramps

-- a stream as it sounds at frame f: by its ramps there, where it has any
abbrev pub ramped : ℕ → ℕ → Option (List Ramp) → Stream → Stream
ramped n f None s = s
ramped n f (Some ramps) s = with_factors s (values_at n f ramps)

abbrev pub ramped_input : ℕ → ℕ → List InputRamps → Input → Input
ramped_input n f ramps x = record x { stream = ramped n f (ramps_at x.index ramps) x.stream }

-- all inputs as they sound at frame f
abbrev pub ramped_inputs : ℕ → ℕ → List InputRamps → List Input → List Input
ramped_inputs n f ramps inputs = map (ramped_input n f ramps) inputs

-- the ramped mix of inputs that stand at frame h, k frames ahead
abbrev pub ramp_frame : Samples → ℕ → ℕ → List InputRamps → SampleSpec → List Input → ℕ → Frame
ramp_frame samples n h ramps spec inputs k = mix_of samples spec (streams_of (ramped_inputs n (h + k) ramps inputs)) k

-- the ramped mix k frames past a sink's horizon
abbrev pub ramp_mixed : Samples → ℕ → List InputRamps → Sink → ℕ → Frame
ramp_mixed samples n ramps sink k = ramp_frame samples n sink.horizon ramps sink.spec sink.inputs k

-- a sink, and the ramps of its inputs
pub record RampSink : Type 0 where
  pub sink : Sink
  pub ramps : List InputRamps

abbrev pub empty_ramp_sink : SampleSpec → ℕ → ℕ → RampSink
empty_ramp_sink spec guard depth = record { sink = empty_sink spec guard depth; ramps = [] }

-- the sink with its frames from the horizon to filled mixed by ramps; `buffer` has the frames from consumed to the horizon first
abbrev pub with_ramped : Samples → ℕ → List InputRamps → Sink → List Frame → Sink
with_ramped samples n ramps sink buffer =
    record sink { buffer = take (sink.horizon - sink.consumed) buffer ++ map (ramp_mixed samples n ramps sink) (range_with_len 0 (sink.filled - sink.horizon)) }

-- the turn after a sync that consumed k frames, by ramps over n frames: the frames below the new horizon stay
abbrev pub ramp_turned : Samples → ℕ → RampSink → ℕ → List (Message Stream) → RampSink
ramp_turned samples n rs k messages = record {
  sink = with_ramped samples n (ramps_with_all n (next_horizon rs.sink k) messages rs.ramps) (turned samples rs.sink k messages) (drop k rs.sink.buffer);
  ramps = ramps_with_all n (next_horizon rs.sink k) messages rs.ramps;
}

-- the turn whose sync failed; nothing is mixed
abbrev pub ramp_stopped : ℕ → RampSink → List (Message Stream) → RampSink
ramp_stopped n rs messages = record {
  sink = stopped_turn rs.sink messages;
  ramps = ramps_with_all n (next_horizon rs.sink 0) messages rs.ramps;
}

-- the ramps of an input, if it has any, stand at the factors of its stream at frame f
abbrev pub StandAt : ℕ → ℕ → List InputRamps → Input → Type 0
StandAt n f ramps x = ramped n f (ramps_at x.index ramps) x.stream ≡ x.stream
