-- Frames, and the sample spec by which their bytes are read. Codes and sizes are those of PulseAudio's pulse/sample.h.
use Rattle.std.specs.Prelude.{ℕ, zero, suc, ◌*◌, List, [], ◌∷◌, take, drop, slice_index}

-- a frame is its bytes, as they were written
abbrev pub Frame : Type 0
Frame = List ℕ

-- the code of the sample format, the number of channels, and how many frames a second has
pub record SampleSpec : Type 0 where
  pub format : ℕ
  pub channels : ℕ
  pub rate : ℕ

-- the bytes of a sample, by the code of its format: U8, A-law, mu-law; S16LE, S16BE; FLOAT32LE, FLOAT32BE; S32LE, S32BE; S24LE, S24BE; S24_32LE,
-- S24_32BE
abbrev pub sample_size : ℕ → ℕ
sample_size format = slice_index (1 ∷ 1 ∷ 1 ∷ 2 ∷ 2 ∷ 4 ∷ 4 ∷ 4 ∷ 4 ∷ 3 ∷ 3 ∷ 4 ∷ 4 ∷ []) format

-- the bytes of a frame
abbrev pub frame_size : SampleSpec → ℕ
frame_size spec = spec.channels * sample_size spec.format

-- the bytes of one channel's sample in a frame
abbrev pub sample_of : SampleSpec → Frame → ℕ → List ℕ
sample_of spec frame channel = take (sample_size spec.format) (drop (channel * sample_size spec.format) frame)

-- the first n frames of the bytes, `size` bytes each
abbrev pub frames_of : ℕ → ℕ → List ℕ → List Frame
frames_of size zero bytes = []
frames_of size (suc n) bytes = take size bytes ∷ frames_of size n (drop size bytes)
