-- The frames that the kept sums become.
use Rattle.std.specs.Prelude.{ℕ, ℤ, List, ◌++◌, map, length}
use Rattle.std.specs.Int.{saturate_signed, w16}
use Rattle.std.specs.List.{concat, flat_map, range_with_len}
use Rattle.px_sample.specs.declared.format.Format.{Format}
use Rattle.px_sample.specs.declared.format.Format.TheVariants.{S16Le}
use Rattle.px_sample.specs.Format.{width_of}
use Rattle.px_sample.specs.WorkValue.{packed_sample}
use Rattle.px_kernel.specs.Kernel.{at, bits_of}
use Rattle.px_mixcache.specs.Run.{KeptRun}
use Rattle.px_mixcache.specs.Cache.{run_at}

-- a frame: the sum of each channel in turn, clipped once and packed
abbrev pub frame_of : Format → List KeptRun → ℕ → List ℕ
frame_of format runs k = flat_map (λ c. packed_sample format (saturate_signed (bits_of (width_of format)) (at (run_at runs c).sums k))) (range_with_len 0 (length runs))

-- frame k of two runs of sums, in samples of 16 bits, little-endian
abbrev pub stereo_at : List ℤ → List ℤ → ℕ → List ℕ
stereo_at left right k = packed_sample S16Le (saturate_signed w16 (at left k)) ++ packed_sample S16Le (saturate_signed w16 (at right k))

-- and the frames from one on
abbrev pub stereo_frames : List ℤ → List ℤ → ℕ → ℕ → List ℕ
stereo_frames left right from count = concat (map (stereo_at left right) (range_with_len from count))
