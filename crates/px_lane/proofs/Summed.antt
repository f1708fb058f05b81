-- The sums of a list of inputs.
use Rattle.std.proofs.Common.{◌≡◌, ℕ, zero, suc, ◌<◌, List, [], ◌∷◌, length, map, get_or, ap, sym, ◌∙◌, arith, ℤ, pos}
use Rattle.std.proofs.lemmas.List.{ext_get_or}
use Rattle.std.proofs.lemmas.List.FromFn.{length-map-range_with_len, get_or-map-range_with_len}
use Rattle.std.specs.List.{AllByRecursion, range_with_len}
use Rattle.std.proofs.lemmas.List.Folds.{flat_map-map}
use Rattle.std.specs.Int.{saturate_signed}
use Rattle.px_sample.specs.declared.format.Format.{Format}
use Rattle.px_sample.specs.declared.spec.Spec.{Spec}
use Rattle.px_sample.specs.Format.{code_of, format_with, width_of}
use Rattle.px_sample.specs.WorkValue.{packed_sample, packed_of}
use Rattle.px_model.specs.Frame.{SampleSpec}
use Rattle.px_model.specs.Stream.{Stream, frame_at}
use Rattle.px_model.specs.Mix.{share_of, sum_of, mix_of}
use Rattle.px_model.specs.Sink.{Input as Stands}
use Rattle.px_lane.specs.declared.input.Input.{Input}
use Rattle.px_stream.specs.HeldStream.{HeldStream}
use Rattle.px_lane.specs.Inputs.{inputs_of}
use Rattle.px_stream.specs.Samples.{samples, bit_width}
use Rattle.px_msg.specs.View.{sample_spec}
use Rattle.px_stream.proofs.Sounds.{format_known}

-- a fact of all streams is one of the stream of input i
pub stream_of_input : (P : Stream → Type 0) (inputs : List Input) (i : ℕ) (d : Input) → AllByRecursion (λ x. P (Stands.stream x)) (inputs_of inputs) → i < length inputs
    → P (HeldStream.stream (Input.stream (get_or inputs i d)))
stream_of_input P [] i d all less = absurd (omega (arith, less))
stream_of_input P (x ∷ inputs) zero d all less = all.0
stream_of_input P (x ∷ inputs) (suc i) d all less = stream_of_input P inputs i d all.1 (omega (arith, less))

abbrev shares : SampleSpec → ℕ → ℕ → List Stream → List ℤ
shares sink k c streams = map (λ s. share_of samples sink s c (frame_at s k)) streams

-- the list of the sums, by its places
pub sums_listed : (f : ℕ → ℤ) (sums : List ℤ) (n : ℕ) → length sums ≡ n → ((c : ℕ) → c < n → get_or sums c (pos 0) ≡ f c) → sums ≡ map f (range_with_len 0 n)
sums_listed f sums n size each =
    ext_get_or (pos 0) sums (map f (range_with_len 0 n)) (size ∙ sym (length-map-range_with_len f 0 n))
    (λ i less. each i (omega (arith, less, size)) ∙ sym (get_or-map-range_with_len f 0 n i i (pos 0) (omega (arith, less, size)) (omega arith)))

-- the sums, clipped and packed, are the frame of the definition
pub packed_mix : (sink : Spec) (streams : List Stream) (k : ℕ)
    → packed_of sink.format (map (saturate_signed (bit_width (width_of sink.format))) (map (sum_of samples (sample_spec sink) streams k) (range_with_len 0 sink.channels)))
    ≡ mix_of samples (sample_spec sink) streams k
packed_mix sink streams k =
    let clip = λ (x : ℤ). saturate_signed (bit_width (width_of (format_with (code_of sink.format)))) x in
    ap (λ (g : Format). packed_of g (map (saturate_signed (bit_width (width_of g))) (map (sum_of samples (sample_spec sink) streams k) (range_with_len 0 sink.channels)))) (sym (format_known sink.format))
    ∙ flat_map-map (λ (x : ℤ). packed_sample (format_with (code_of sink.format)) x) clip (map (sum_of samples (sample_spec sink) streams k) (range_with_len 0 sink.channels))
    ∙ flat_map-map (λ (x : ℤ). packed_sample (format_with (code_of sink.format)) (clip x)) (sum_of samples (sample_spec sink) streams k) (range_with_len 0 sink.channels)
