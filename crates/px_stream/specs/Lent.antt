-- Frames that are lent, whose samples of 16 bits are their work values.
use Rattle.std.specs.Prelude.{◌≡◌, ◌≢◌, ℕ, ◌+◌, ◌*◌, ◌^◌, ◌<◌, ◌≤◌, ℤ, List, length, take, drop, slice_index}
use Rattle.px_sample.specs.declared.format.Format.TheVariants.{S16Le}
use Rattle.px_sample.specs.declared.format.Width.{Width}
use Rattle.px_sample.specs.WorkValue.{work_value_of}
use Rattle.px_model.specs.Queue.{nothing}
use Rattle.px_model.specs.Stream.{Stream, frame_at}
use Rattle.px_stream.specs.Values.{value_at}

-- the work value of sample i
abbrev pub sample_at : List ℕ → ℕ → ℤ
sample_at bytes i = work_value_of S16Le (take 2 (drop (i * 2) bytes))

-- these are the bytes of n frames from place k on, at most `most`, and their samples are the values at a width
pub record LendsValues (width : Width) (s : Stream) (k most n : ℕ) (bytes : List ℕ) : Type 0 where
  pub few : n ≤ most
  pub small : n < 2 ^ 32
  pub size : length bytes ≡ 2 * (n * s.spec.channels)
  pub there : (j : ℕ) → j < n → frame_at s (k + j) ≢ nothing
  pub values : (c j : ℕ) → c < length s.feed → j < n → sample_at bytes (j * s.spec.channels + slice_index s.feed c) ≡ value_at width s c (frame_at s (k + j))
