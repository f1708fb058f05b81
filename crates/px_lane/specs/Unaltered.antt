-- What part of a sink's mix stays from one turn to the next.
use Rattle.std.specs.Prelude.{◌≡◌, ℕ, ◌+◌, ◌-◌, ◌<◌, ◌≤◌, List, Some, slice_get}
use Rattle.px_model.specs.Frame.{SampleSpec}
use Rattle.px_model.specs.Mix.{mix_of}
use Rattle.px_model.specs.Sink.{Sink, Input, streams_of}
use Rattle.px_stream.specs.Samples.{samples}

-- the mix of the first n frames past the horizon is the same for both lists of inputs
abbrev pub MixesSame : SampleSpec → ℕ → List Input → List Input → Type 0
MixesSame sink n before after = (k : ℕ) → k < n → mix_of samples sink (streams_of after) k ≡ mix_of samples sink (streams_of before) k

-- the first n frames of a sink's buffer past the horizon are the mix of its streams as they stand
pub record IsUnaltered (n : ℕ) (sink : Sink) : Type 0 where
  pub within : n ≤ sink.filled - sink.horizon
  pub mixed : (k : ℕ) → k < n → slice_get sink.buffer ((sink.horizon - sink.consumed) + k) ≡ Some (mix_of samples sink.spec (streams_of sink.inputs) k)

-- ---- where it resumes

-- the mix of the frames from `from` past the horizon on, up to n, is the same for both lists of inputs
abbrev pub MixesSameFrom : SampleSpec → ℕ → ℕ → List Input → List Input → Type 0
MixesSameFrom sink from n before after = (k : ℕ) → from ≤ k → k < n → mix_of samples sink (streams_of after) k ≡ mix_of samples sink (streams_of before) k

-- the frames of a sink's buffer from `from` past the horizon on are the mix of its streams as they stand
abbrev pub IsResumed : ℕ → Sink → Type 0
IsResumed from sink =
    (k : ℕ) → from ≤ k → k < sink.filled - sink.horizon → slice_get sink.buffer ((sink.horizon - sink.consumed) + k) ≡ Some (mix_of samples sink.spec (streams_of sink.inputs) k)
