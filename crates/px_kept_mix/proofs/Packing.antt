-- The frames that kept sums show are the mix.
use Rattle.std.proofs.Common.{◌≡◌, ℕ, zero, suc, ◌+◌, ◌<◌, ◌≤◌, List, ◌∷◌, ◌++◌, map, refl, ap, sym, ◌∙◌, arith}
use Rattle.std.specs.List.{flat_map, concat, range_with_len}
use Rattle.std.specs.Int.{saturate_signed}
use Rattle.px_sample.specs.declared.format.Format.{Format}
use Rattle.px_sample.specs.declared.format.Width.{Width}
use Rattle.px_sample.specs.declared.format.Width.TheVariants.{W8, W16, W32}
use Rattle.px_sample.specs.declared.spec.Spec.{Spec}
use Rattle.px_sample.specs.Format.{width_of}
use Rattle.px_sample.specs.WorkValue.{packed_sample}
use Rattle.px_model.specs.Frame.{Frame}
use Rattle.px_model.specs.Mix.{sum_of, mix_of}
use Rattle.px_model.specs.Sink.{Input, streams_of}
use Rattle.px_msg.specs.View.{sample_spec}
use Rattle.px_stream.specs.Samples.{samples, bit_width}
use Rattle.px_stream.proofs.Sounds.{format_known}
use Rattle.px_kernel.specs.Kernel.{at, bits_of}
use Rattle.px_mixcache.specs.Cache.{KeptSums, run_at}
use Rattle.px_mixcache.specs.Packing.{frame_of}
use Rattle.px_kept_mix.specs.Keeping.{IsKept}

-- over a range, functions that are the same there
flat_same : (f g : ℕ → List ℕ) (a n : ℕ) → ((c : ℕ) → a ≤ c → c < a + n → f c ≡ g c) → flat_map f (range_with_len a n) ≡ flat_map g (range_with_len a n)
flat_same f g a zero same = refl
flat_same f g a (suc n) same = λ i. same a (omega arith) (omega arith) i ++ flat_same f g (a + 1) n (λ c high less. same c (omega (arith, high)) (omega (arith, less))) i

map_same : (f g : ℕ → Frame) (a n : ℕ) → ((k : ℕ) → a ≤ k → k < a + n → f k ≡ g k) → map f (range_with_len a n) ≡ map g (range_with_len a n)
map_same f g a zero same = refl
map_same f g a (suc n) same = λ i. same a (omega arith) (omega arith) i ∷ map_same f g (a + 1) n (λ k high less. same k (omega (arith, high)) (omega (arith, less))) i

bits_same : (w : Width) → bits_of w ≡ bit_width w
bits_same W8 = refl
bits_same W16 = refl
bits_same W32 = refl

module _ (sink : Spec) (inputs : List Input) (kept : KeptSums) (h : IsKept sink inputs kept) where
  sample_packed : (c k : ℕ) → c < sink.channels → k < kept.frames
      → packed_sample sink.format (saturate_signed (bits_of (width_of sink.format)) (at (run_at kept.runs c).sums k))
      ≡ samples.packed (sample_spec sink).format (saturate_signed (samples.width (sample_spec sink).format) (sum_of samples (sample_spec sink) (streams_of inputs) k c))
  sample_packed c k fed less =
      (λ i. packed_sample sink.format (saturate_signed (bits_same (width_of sink.format) i) (h.sums.sums c k fed less i)))
      ∙ ap (λ (g : Format). packed_sample g (saturate_signed (bit_width (width_of g)) (sum_of samples (sample_spec sink) (streams_of inputs) k c))) (sym (format_known sink.format))

  frame_packed : (k : ℕ) → k < kept.frames → frame_of sink.format kept.runs k ≡ mix_of samples (sample_spec sink) (streams_of inputs) k
  frame_packed k less =
      ap (λ (n : ℕ). flat_map (λ c. packed_sample sink.format (saturate_signed (bits_of (width_of sink.format)) (at (run_at kept.runs c).sums k))) (range_with_len 0 n)) h.channels
      ∙ flat_same (λ c. packed_sample sink.format (saturate_signed (bits_of (width_of sink.format)) (at (run_at kept.runs c).sums k)))
      (λ c. samples.packed (sample_spec sink).format (saturate_signed (samples.width (sample_spec sink).format) (sum_of samples (sample_spec sink) (streams_of inputs) k c)))
      0 sink.channels (λ c high fed. sample_packed c k (omega (arith, fed)) less)

  pub frames_packed : (from n : ℕ) → from + n ≤ kept.frames
      → concat (map (frame_of sink.format kept.runs) (range_with_len from n)) ≡ concat (map (mix_of samples (sample_spec sink) (streams_of inputs)) (range_with_len from n))
  frames_packed from n fit =
      ap (λ (fs : List Frame). concat fs)
      (map_same (frame_of sink.format kept.runs) (mix_of samples (sample_spec sink) (streams_of inputs)) from n (λ k high less. frame_packed k (omega (arith, less, fit))))
