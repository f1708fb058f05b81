-- The work values of frames ahead, a run of them for each channel of a sink.
use Rattle.std.specs.Prelude.{◌≡◌, ◌≢◌, ℕ, ◌+◌, ◌-◌, ◌*◌, ◌^◌, ◌<◌, ◌≤◌, ℤ, pos, List, length, slice_index, slice_index_or}
use Rattle.px_sample.specs.declared.format.Width.{Width}
use Rattle.px_model.specs.Frame.{Frame, sample_of}
use Rattle.px_model.specs.Queue.{FrameAhead, nothing, silence, sound}
use Rattle.px_model.specs.Stream.{Stream, frame_at}
use Rattle.px_stream.specs.Samples.{samples, bit_width}

-- the value, at a width, of the stream channel that feeds a sink channel
abbrev pub value_in : Width → Stream → ℕ → Frame → ℤ
value_in width s channel frame =
    samples.to (samples.width s.spec.format) (bit_width width) (samples.work s.spec.format (sample_of s.spec frame (slice_index s.feed channel)))

-- the same of a frame ahead; 0 for silence and where there is none
abbrev pub value_at : Width → Stream → ℕ → FrameAhead → ℤ
value_at width s channel nothing = pos 0
value_at width s channel silence = pos 0
value_at width s channel (sound frame) = value_in width s channel frame

-- g frames from place k on are given, and their values fill the front of each run of n values; the rest of each run stays. The next frame isn't
-- given, or doesn't fit, or its place ahead is past 32 bits
pub record GivesValues (width : Width) (s : Stream) (k n g : ℕ) (old new : List ℤ) : Type 0 where
  pub few : g ≤ n
  pub size : length new ≡ length old
  pub there : (j : ℕ) → j < g → frame_at s (k + j) ≢ nothing
  pub greatest : g < n → k + g < 2 ^ 32 - 1 → frame_at s (k + g) ≡ nothing
  pub values : (c j : ℕ) → c < length s.feed → j < g → slice_index_or new (c * n + j) (pos 0) ≡ value_at width s c (frame_at s (k + j))
  pub rest : (c j : ℕ) → c < length s.feed → g ≤ j → j < n → slice_index_or new (c * n + j) (pos 0) ≡ slice_index_or old (c * n + j) (pos 0)
