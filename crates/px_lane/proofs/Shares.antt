-- What a stream adds to a mix, by its values; and the bytes of a mix.
use Rattle.std.proofs.Common.{◌≡◌, ℕ, zero, suc, ◌+◌, ◌*◌, ◌/◌, ◌≤◌, List, length, map, refl, ap, sym, ◌∙◌, subst, arith, ℤ, pos, ◌+ℤ◌, mul_comm}
use Rattle.std.proofs.Math.Nat.{mul-le-mul, mul-le-mul_right}
use Rattle.std.proofs.Math.IntN.{zero-*ℤ}
use Rattle.std.specs.Prelude.{slice_index}
use Rattle.px_sample.specs.declared.format.Format.{Format}
use Rattle.px_sample.specs.declared.format.Format.TheVariants.{U8, Alaw, Ulaw, S16Le, S16Be, Float32Le, Float32Be, S32Le, S32Be, S24Le, S24Be, S24In32Le, S24In32Be}
use Rattle.px_sample.specs.declared.spec.Spec.{Spec}
use Rattle.px_sample.specs.Format.{size_of, width_of, frame_size_of, IsLinear}
use Rattle.px_sample.specs.Bytes.{little_bytes, big_bytes, unsigned_of}
use Rattle.px_sample.specs.WorkValue.{packed_sample}
use Rattle.px_sample.proofs.FormatLemmas.{size_of-some}
use Rattle.std.specs.Int.{int_div_euclid}
use Rattle.std.specs.List.{range_with_len}
use Rattle.std.proofs.lemmas.List.{length-reverse}
use Rattle.px_model.specs.Frame.{frames_of, frame_size, sample_of}
use Rattle.px_model.specs.Queue.{FrameAhead, nothing, silence, sound}
use Rattle.px_model.specs.Stream.{Stream}
use Rattle.px_model.specs.Mix.{mix_of, scaled, share_of}
use Rattle.px_model.proofs.Replays.{mix_whole}
use Rattle.px_msg.specs.View.{sample_spec}
use Rattle.px_stream.specs.Samples.{samples, bit_width}
use Rattle.px_stream.specs.Values.{value_at}
use Rattle.px_stream.proofs.Sounds.{format_known, frame_size_known}
use Rattle.px_lane.specs.Whole.{AreFramesOf}
use Rattle.px_lane.proofs.Whole.{frames_within}

-- ---- what a stream adds

-- nothing and silence add nothing
scaled_zero : (factor : ℕ) → scaled (pos 0) factor ≡ pos 0
scaled_zero factor = ap (λ (z : ℤ). int_div_euclid z (pos 65536)) (zero-*ℤ (pos factor))

-- what it adds to a channel is its value there by its factor
pub share_is : (sink : Spec) (s : Stream) (c : ℕ) (a : FrameAhead)
    → scaled (value_at (width_of sink.format) s c a) (slice_index s.factors c) ≡ share_of samples (sample_spec sink) s c a
share_is sink s c nothing = scaled_zero (slice_index s.factors c)
share_is sink s c silence = scaled_zero (slice_index s.factors c)
share_is sink s c (sound frame) =
    ap (λ (g : Format). scaled (samples.to (samples.width s.spec.format) (bit_width (width_of g)) (samples.work s.spec.format (sample_of s.spec frame (slice_index s.feed c)))) (slice_index s.factors c))
    (sym (format_known sink.format))

-- ---- the bytes of a sample

length_little : (k n : ℕ) → length (little_bytes k n) ≡ k
length_little zero n = refl
length_little (suc k) n = ap suc (length_little k (n / 256))

length_big : (k n : ℕ) → length (big_bytes k n) ≡ k
length_big k n = length-reverse (little_bytes k n) ∙ length_little k n

pub length_sample : (format : Format) → IsLinear format → (value : ℤ) → length (packed_sample format value) ≡ size_of format
length_sample U8 linear value = length_little 1 (unsigned_of 8 (value +ℤ pos 128))
length_sample Alaw linear value = absurd linear
length_sample Ulaw linear value = absurd linear
length_sample S16Le linear value = length_little 2 (unsigned_of 16 value)
length_sample S16Be linear value = length_big 2 (unsigned_of 16 value)
length_sample Float32Le linear value = absurd linear
length_sample Float32Be linear value = absurd linear
length_sample S32Le linear value = length_little 4 (unsigned_of 32 value)
length_sample S32Be linear value = length_big 4 (unsigned_of 32 value)
length_sample S24Le linear value = length_little 3 (unsigned_of 24 (int_div_euclid value (pos 256)))
length_sample S24Be linear value = length_big 3 (unsigned_of 24 (int_div_euclid value (pos 256)))
length_sample S24In32Le linear value = length_little 4 (unsigned_of 24 (int_div_euclid value (pos 256)))
length_sample S24In32Be linear value = length_big 4 (unsigned_of 24 (int_div_euclid value (pos 256)))

-- a frame of a mix has the bytes of the sink's spec
pub mix_sized : (sink : Spec) → IsLinear sink.format → (streams : List Stream) (k : ℕ) → length (mix_of samples (sample_spec sink) streams k) ≡ frame_size_of sink
mix_sized sink linear streams k =
    mix_whole samples (sample_spec sink) (size_of sink.format)
    (λ x. ap (λ (g : Format). length (packed_sample g x)) (format_known sink.format) ∙ length_sample sink.format linear x) streams k
    ∙ mul_comm sink.channels (size_of sink.format)

pub mixes_sized : (sink : Spec) → IsLinear sink.format → (streams : List Stream) (a n : ℕ) → AreFramesOf (frame_size_of sink) (map (mix_of samples (sample_spec sink) streams) (range_with_len a n))
mixes_sized sink linear streams a zero = tt
mixes_sized sink linear streams a (suc n) = (mix_sized sink linear streams a, mixes_sized sink linear streams (a + 1) n)

-- the first frames of a buffer that has room for the depth
pub frames_sized : (sink : Spec) (n depth : ℕ) (bytes : List ℕ) → length bytes ≡ depth * frame_size_of sink → n ≤ depth
    → AreFramesOf (frame_size (sample_spec sink)) (frames_of (frame_size_of sink) n bytes)
frames_sized sink n depth bytes full fit =
    subst (λ (size : ℕ). AreFramesOf size (frames_of (frame_size_of sink) n bytes)) (sym (frame_size_known sink))
    (frames_within (frame_size_of sink) n bytes (omega (arith, full, mul-le-mul_right (frame_size_of sink) fit)))

pub some_bytes : (sink : Spec) → 1 ≤ sink.channels → 1 ≤ frame_size (sample_spec sink)
some_bytes sink some =
    subst (λ (n : ℕ). 1 ≤ n) (sym (frame_size_known sink)) (omega (arith, mul-le-mul (size_of-some sink.format) some))
