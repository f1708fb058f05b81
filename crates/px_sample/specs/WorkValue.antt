-- Work values: the whole numbers that samples are mixed as.
use Rattle.std.specs.Prelude.{ℕ, ◌-◌, ◌/◌, ◌%◌, ◌^◌, List, [], ◌∷◌, ◌++◌, length, map, take, drop, ℤ, pos, ◌+ℤ◌, ◌-ℤ◌, ◌*ℤ◌, ◌<ℤ◌, ◌≤ℤ◌, neg_ℤ}
use Rattle.std.specs.List.{flat_map}
use Rattle.std.specs.Int.{int_div_euclid}
use Rattle.std.specs.Simd.{first_chunks}
use Rattle.px_sample.specs.declared.format.Width.{Width}
use Rattle.px_sample.specs.declared.format.Format.{Format}
use Rattle.px_sample.specs.declared.format.Format.TheVariants.{U8, Alaw, Ulaw, S16Le, S16Be, Float32Le, Float32Be, S32Le, S32Be, S24Le, S24Be, S24In32Le, S24In32Be}
use Rattle.px_sample.specs.Width.{bits_of}
use Rattle.px_sample.specs.Format.{size_of}
use Rattle.px_sample.specs.Bytes.{little_endian, big_endian, little_bytes, big_bytes, signed_of, unsigned_of}
use Rattle.px_sample.specs.CompandedPcm.{a_law_of, mu_law_of}

-- the values that fit a width
pub record IsWithin (width : Width) (value : ℤ) : Type 0 where
  pub low : neg_ℤ (pos (2 ^ (bits_of width - 1))) ≤ℤ value
  pub high : value <ℤ pos (2 ^ (bits_of width - 1))

-- the work value of a sample, from its bytes; floating point has none, and counts as silence
abbrev pub work_value_of : Format → List ℕ → ℤ
work_value_of U8 sample = pos (little_endian sample) -ℤ pos 128
work_value_of Alaw sample = a_law_of (little_endian sample)
work_value_of Ulaw sample = mu_law_of (little_endian sample)
work_value_of S16Le sample = signed_of 16 (little_endian sample)
work_value_of S16Be sample = signed_of 16 (big_endian sample)
work_value_of Float32Le sample = pos 0
work_value_of Float32Be sample = pos 0
work_value_of S32Le sample = signed_of 32 (little_endian sample)
work_value_of S32Be sample = signed_of 32 (big_endian sample)
work_value_of S24Le sample = signed_of 24 (little_endian sample) *ℤ pos 256
work_value_of S24Be sample = signed_of 24 (big_endian sample) *ℤ pos 256
work_value_of S24In32Le sample = signed_of 24 (little_endian sample % 2 ^ 24) *ℤ pos 256
work_value_of S24In32Be sample = signed_of 24 (big_endian sample % 2 ^ 24) *ℤ pos 256

-- the samples of a run, each as its bytes
abbrev pub samples_of : Format → List ℕ → List (List ℕ)
samples_of format bytes = first_chunks (size_of format) (length bytes / size_of format) bytes

-- the work values of a run of samples
abbrev pub work_values_of : Format → List ℕ → List ℤ
work_values_of format bytes = map (work_value_of format) (samples_of format bytes)

-- the sample that carries a work value, as its bytes; only linear formats have one
abbrev pub packed_sample : Format → ℤ → List ℕ
packed_sample U8 value = little_bytes 1 (unsigned_of 8 (value +ℤ pos 128))
packed_sample Alaw value = []
packed_sample Ulaw value = []
packed_sample S16Le value = little_bytes 2 (unsigned_of 16 value)
packed_sample S16Be value = big_bytes 2 (unsigned_of 16 value)
packed_sample Float32Le value = []
packed_sample Float32Be value = []
packed_sample S32Le value = little_bytes 4 (unsigned_of 32 value)
packed_sample S32Be value = big_bytes 4 (unsigned_of 32 value)
packed_sample S24Le value = little_bytes 3 (unsigned_of 24 (int_div_euclid value (pos 256)))
packed_sample S24Be value = big_bytes 3 (unsigned_of 24 (int_div_euclid value (pos 256)))
packed_sample S24In32Le value = little_bytes 4 (unsigned_of 24 (int_div_euclid value (pos 256)))
packed_sample S24In32Be value = big_bytes 4 (unsigned_of 24 (int_div_euclid value (pos 256)))

-- the bytes that carry a run of work values
abbrev pub packed_of : Format → List ℤ → List ℕ
packed_of format values = flat_map (packed_sample format) values

-- a sample with the upper byte of 24 bits in 32 cleared
abbrev pub cleared_of : Format → List ℕ → List ℕ
cleared_of S24In32Le sample = take 3 sample ++ 0 ∷ []
cleared_of S24In32Be sample = 0 ∷ drop 1 sample
cleared_of _ sample = sample

-- a work value brought to another width, rounded down where bits are dropped
abbrev pub at_width : Width → Width → ℤ → ℤ
at_width from to value =
    int_div_euclid (value *ℤ pos (2 ^ (bits_of to - bits_of from))) (pos (2 ^ (bits_of from - bits_of to)))
