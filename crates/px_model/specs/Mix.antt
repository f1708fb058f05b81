-- The mix of a sink's streams (PulseAudio: `pa_mix` of pulsecore/mix.c, with linear volumes of 16.16; its `>> 16` rounds towards minus infinity).
use Rattle.std.specs.Prelude.{ℕ, ℤ, pos, ◌+ℤ◌, ◌*ℤ◌, List, map, fold, flat_map, slice_index}
use Rattle.std.specs.Int.{Width, int_div_euclid, saturate_signed}
use Rattle.std.specs.List.{range_with_len}
use Rattle.px_model.specs.Frame.{Frame, SampleSpec, sample_of}
use Rattle.px_model.specs.Queue.{FrameAhead, nothing, silence, sound}
use Rattle.px_model.specs.Stream.{Stream, frame_at}

-- What the mix needs of the sample formats, each by its code. The laws hold for any such functions.
pub record Samples : Type 0 where
  -- the width at which a format's values are worked on
  pub width : ℕ → Width
  -- the work value of a sample's bytes
  pub work : ℕ → List ℕ → ℤ
  -- a work value converted from one width to another
  pub to : Width → Width → ℤ → ℤ
  -- the bytes of a work value
  pub packed : ℕ → ℤ → List ℕ

-- the work value, at the sink's width, of the stream's channel that feeds a sink channel
abbrev pub value_of : Samples → SampleSpec → Stream → Frame → ℕ → ℤ
value_of samples sink s frame channel =
    samples.to (samples.width s.spec.format) (samples.width sink.format)
    (samples.work s.spec.format (sample_of s.spec frame (slice_index s.feed channel)))

-- a value times a factor in 65536ths, rounded towards minus infinity
abbrev pub scaled : ℤ → ℕ → ℤ
scaled x factor = int_div_euclid (x *ℤ pos factor) (pos 65536)

-- what a stream adds to a sink channel: nothing where it has no frame, and 0 for silence
abbrev pub share_of : Samples → SampleSpec → Stream → ℕ → FrameAhead → ℤ
share_of samples sink s channel nothing = pos 0
share_of samples sink s channel silence = pos 0
share_of samples sink s channel (sound frame) = scaled (value_of samples sink s frame channel) (slice_index s.factors channel)

-- the sum of all streams in a sink channel, k frames ahead
abbrev pub sum_of : Samples → SampleSpec → List Stream → ℕ → ℕ → ℤ
sum_of samples sink streams k channel = fold ◌+ℤ◌ (pos 0) (map (λ s. share_of samples sink s channel (frame_at s k)) streams)

-- one sample of the mix k frames ahead: the sum, clipped once
abbrev pub sample_mix : Samples → SampleSpec → List Stream → ℕ → ℕ → ℤ
sample_mix samples sink streams k channel = saturate_signed (samples.width sink.format) (sum_of samples sink streams k channel)

-- the mix k frames ahead, packed channel by channel
abbrev pub mix_of : Samples → SampleSpec → List Stream → ℕ → Frame
mix_of samples sink streams k =
    flat_map (λ channel. samples.packed sink.format (sample_mix samples sink streams k channel)) (range_with_len 0 sink.channels)
