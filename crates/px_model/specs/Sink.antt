-- A sink: its counts of frames, its buffer and its inputs (PulseAudio: `thread_info` of pulsecore/sink.h; guard is `rewind_safeguard`).
use Rattle.std.specs.Prelude.{◌≡◌, ℕ, ◌+◌, ◌-◌, ◌<◌, ◌≤◌, Bool, false, not, List, [], ◌∷◌, map, filter, length, Option, Some, None, nat_lt, slice_get, ◌==◌, if◌then◌else◌, ⊤}
use Rattle.std.specs.List.{AllByRecursion}
use Rattle.std.specs.FinMap as finite
use Rattle.px_model.specs.Frame.{Frame, SampleSpec}
use Rattle.px_model.specs.Stream.{Stream, IsStream}
use Rattle.px_model.specs.Orderly.{Inputs, IsPlayable, IsFeed, AreFactors}

-- a stream with its input index
pub record Input : Type 0 where
  pub index : ℕ
  pub stream : Stream

pub record Sink : Type 0 where
  pub spec : SampleSpec
  -- how many frames past consumed no rewind touches, and the most that wait in the buffer
  pub guard : ℕ
  pub depth : ℕ
  -- frames consumed, frames mixed, and the first frame that may still change
  pub consumed : ℕ
  pub filled : ℕ
  pub horizon : ℕ
  pub stopped : Bool
  -- the frames from consumed to filled
  pub buffer : List Frame
  -- sorted by index, each stream at the horizon
  pub inputs : List Input

abbrev pub empty_sink : SampleSpec → ℕ → ℕ → Sink
empty_sink spec guard depth = record {
  spec = spec;
  guard = guard;
  depth = depth;
  consumed = 0;
  filled = 0;
  horizon = 0;
  stopped = false;
  buffer = [];
  inputs = [];
}

abbrev pub streams_of : List Input → List Stream
streams_of inputs = map (λ x. Input.stream x) inputs

-- frame f of the buffer, if it is there
abbrev pub frame_in : Sink → ℕ → Option Frame
frame_in sink f = if nat_lt f sink.consumed then None else slice_get sink.buffer (f - sink.consumed)

-- the stream of an input, if it is there
abbrev pub stream_at : ℕ → List Input → Option Stream
stream_at i [] = None
stream_at i (x ∷ inputs) = if x.index == i then Some x.stream else stream_at i inputs

-- the inputs with one inserted at its place, with one removed, and with one stream changed
abbrev pub with_input : ℕ → Stream → List Input → List Input
with_input i s [] = record { index = i; stream = s } ∷ []
with_input i s (x ∷ inputs) =
    if nat_lt i x.index then record { index = i; stream = s } ∷ (x ∷ inputs)
    else (if x.index == i then record { index = i; stream = s } ∷ inputs else x ∷ with_input i s inputs)

abbrev pub without_input : ℕ → List Input → List Input
without_input i inputs = filter (λ x. not (Input.index x == i)) inputs

abbrev pub with_stream : (Stream → Stream) → Input → Input
with_stream f x = record x { stream = f x.stream }

abbrev pub with_change : ℕ → (Stream → Stream) → List Input → List Input
with_change i f inputs = map (λ x. if Input.index x == i then with_stream f x else x) inputs

-- the inputs with their sample specs
abbrev pub specs_of : List Input → Inputs
specs_of inputs = finite.from_entries (map (λ x. (Input.index x, Stream.spec (Input.stream x))) inputs)

-- every index lies above i
abbrev pub AllAbove : ℕ → List Input → Type 0
AllAbove i inputs = AllByRecursion (λ x. i < Input.index x) inputs

abbrev pub IsRising : List Input → Type 0
IsRising [] = ⊤
IsRising (x ∷ inputs) = AllAbove x.index inputs × IsRising inputs

-- a stream that a sink can mix: it has a stream's invariant, a playable spec, and a channel and a factor for each sink channel
pub record IsStreamOf (sink : SampleSpec) (s : Stream) : Type 0 where
  pub holds : IsStream s
  pub playable : IsPlayable s.spec
  pub feed_fits : IsFeed sink s.spec s.feed
  pub factors_fit : AreFactors sink s.factors

-- the invariant of a sink
pub record IsSink (sink : Sink) : Type 0 where
  pub consumed_first : sink.consumed ≤ sink.horizon
  pub horizon_first : sink.horizon ≤ sink.filled
  pub horizon_near : sink.horizon ≤ sink.consumed + sink.guard
  pub filled_bounded : sink.filled ≤ sink.consumed + sink.depth
  pub buffer_full : length sink.buffer ≡ sink.filled - sink.consumed
  pub rising : IsRising sink.inputs
  pub streams : AllByRecursion (λ x. IsStreamOf sink.spec (Input.stream x)) sink.inputs
