-- The sums of some frames over all inputs, and the frames that they pack to.
use Rattle.std.proofs.Common.{◌≡◌, ℕ, zero, suc, ◌+◌, ◌<◌, ◌≤◌, List, [], ◌∷◌, ◌++◌, length, map, take, get_or, refl, ap, sym, ◌∙◌, subst, arith, ℤ}
use Rattle.std.specs.Prelude.{◌==◌, Option, Some, None, ⊤}
use Rattle.std.specs.List.{AllByRecursion, flat_map, concat, range_with_len}
use Rattle.std.specs.Int.{saturate_signed}
use Rattle.std.proofs.lemmas.Int.{ints}
use Rattle.std.proofs.lemmas.Bool.{cond_both}
use Rattle.std.proofs.lemmas.List.{map-append}
use Rattle.px_sample.specs.declared.format.Format.{Format}
use Rattle.px_sample.specs.declared.format.Width.{Width}
use Rattle.px_sample.specs.declared.format.Width.TheVariants.{W8, W16, W32}
use Rattle.px_sample.specs.declared.spec.Spec.{Spec}
use Rattle.px_sample.specs.Format.{width_of}
use Rattle.px_sample.specs.WorkValue.{packed_sample}
use Rattle.px_model.specs.Frame.{Frame}
use Rattle.px_model.specs.Stream.{Stream}
use Rattle.px_model.specs.Mix.{sum_of, mix_of}
use Rattle.px_model.specs.Sink.{Input as Stands, streams_of}
use Rattle.px_msg.specs.View.{sample_spec}
use Rattle.px_stream.specs.Samples.{samples, bit_width}
use Rattle.px_stream.proofs.Sounds.{format_known}
use Rattle.px_kernel.specs.Kernel.{at, bits_of}
use Rattle.px_mixcache.specs.Cache.{KeptSums, kept_at, run_at}
use Rattle.px_mixcache.specs.Packing.{frame_of}
use Rattle.px_kept_mix.specs.Kept.{IsSumOf, share_at}
use Rattle.px_kept_mix.specs.Keeping.{AreSmall, share_in}
use Rattle.px_kept_mix.proofs.Added.{added_range}
use Rattle.px_kept_mix.proofs.Follows as follows
use Rattle.px_lane.specs.declared.input.Input.{Input}
use Rattle.px_lane.specs.Inputs.{input_of, inputs_of}
use Rattle.px_lane.proofs.Growing.{front_more}
use Rattle.px_ramp.specs.declared.ramp.Ramp.{Ramp}
use Rattle.px_ramp.specs.declared.ramps.InputRamps.{InputRamps}
use Rattle.px_ramp.specs.Ramp.{ramps_at}
use Rattle.px_ramp.specs.RampMix.{ramped_input, ramped_inputs}
use Rattle.px_ramp.specs.Table.{AreWide}
use Rattle.px_ramp.proofs.Ramped.{map_same}

-- ---- the factors of an input

abbrev IsWide : ℕ → Option (List Ramp) → Type 0
IsWide channels None = ⊤
IsWide channels (Some ramps) = length ramps ≡ channels

pub wide_at : (channels i : ℕ) (ramps : List InputRamps) → AreWide channels ramps → IsWide channels (ramps_at i ramps)
wide_at channels i [] wide = tt
wide_at channels i (x ∷ ramps) wide =
    cond_both (x.input == i) (Some x.ramps) (ramps_at i ramps) (IsWide channels) (λ e. wide.0) (λ e. wide_at channels i ramps wide.1)

pub wide_found : (channels i : ℕ) (ramps : List InputRamps) (found : List Ramp) → AreWide channels ramps → Some found ≡ ramps_at i ramps → length found ≡ channels
wide_found channels i ramps found wide is = subst (IsWide channels) (sym is) (wide_at channels i ramps wide)

-- ---- one more input

pub ramped_more : (n f : ℕ) (ramps : List InputRamps) (items : List Input) (i : ℕ) (x : Input) → i < length items → x ≡ get_or items i x
    → ramped_inputs n f ramps (inputs_of (take (i + 1) items)) ≡ ramped_inputs n f ramps (inputs_of (take i items)) ++ ramped_input n f ramps (input_of x) ∷ []
ramped_more n f ramps items i x less is = ap (ramped_inputs n f ramps) (front_more items i x less is) ∙ map-append (ramped_input n f ramps) (inputs_of (take i items)) (input_of x ∷ [])

fewer : (n m : ℕ) (sum : ℤ) → n ≤ m → IsSumOf n sum → IsSumOf m sum
fewer n m sum few h = record { low = omega (arith, ints, h.low, few); high = omega (arith, ints, h.high, few) }

-- the sums so far are in range; `front` has the inputs so far as they sound at each frame
pub small_so_far : (sink : Spec) (n : ℕ) (front : ℕ → List Stands) (kept : KeptSums) → ((k : ℕ) → length (front k) ≤ 256) → length kept.runs ≡ sink.channels → kept.frames ≡ n
    → ((c k : ℕ) → c < sink.channels → k < n → kept_at kept c k ≡ sum_of samples (sample_spec sink) (streams_of (front k)) k c)
    → ((c k : ℕ) → c < sink.channels → k < n → AllByRecursion (λ x. IsSumOf 1 (share_in sink (Stands.stream x) c k)) (front k))
    → AreSmall 258 kept
small_so_far sink n front kept few channels frames sums little c k fed less =
    let inside : c < sink.channels = omega (arith, fed, channels) in
    let there : k < n = omega (arith, less, frames) in
    subst (IsSumOf 258) (sym (sums c k inside there ∙ follows.sum_added samples (sample_spec sink) (front k) k c))
    (fewer (length (front k)) 258 _ (omega (arith, few k)) (added_range (λ s. share_at samples (sample_spec sink) s c k) (front k) (little c k inside there)))

-- ---- packing

flat_same : (f g : ℕ → List ℕ) (a n : ℕ) → ((c : ℕ) → a ≤ c → c < a + n → f c ≡ g c) → flat_map f (range_with_len a n) ≡ flat_map g (range_with_len a n)
flat_same f g a zero same = refl
flat_same f g a (suc n) same = λ i. same a (omega arith) (omega arith) i ++ flat_same f g (a + 1) n (λ c high less. same c (omega (arith, high)) (omega (arith, less))) i

bits_same : (w : Width) → bits_of w ≡ bit_width w
bits_same W8 = refl
bits_same W16 = refl
bits_same W32 = refl

-- sums of the streams as they sound at each frame
module _ (sink : Spec) (streams : ℕ → List Stream) (n : ℕ) (kept : KeptSums) (channels : length kept.runs ≡ sink.channels)
    (sums : (c k : ℕ) → c < sink.channels → k < n → kept_at kept c k ≡ sum_of samples (sample_spec sink) (streams k) k c) where
  sample_packed : (c k : ℕ) → c < sink.channels → k < n
      → packed_sample sink.format (saturate_signed (bits_of (width_of sink.format)) (at (run_at kept.runs c).sums k))
      ≡ samples.packed (sample_spec sink).format (saturate_signed (samples.width (sample_spec sink).format) (sum_of samples (sample_spec sink) (streams k) k c))
  sample_packed c k fed less =
      (λ i. packed_sample sink.format (saturate_signed (bits_same (width_of sink.format) i) (sums c k fed less i)))
      ∙ ap (λ (g : Format). packed_sample g (saturate_signed (bit_width (width_of g)) (sum_of samples (sample_spec sink) (streams k) k c))) (sym (format_known sink.format))

  frame_packed : (k : ℕ) → k < n → frame_of sink.format kept.runs k ≡ mix_of samples (sample_spec sink) (streams k) k
  frame_packed k less =
      ap (λ (m : ℕ). flat_map (λ c. packed_sample sink.format (saturate_signed (bits_of (width_of sink.format)) (at (run_at kept.runs c).sums k))) (range_with_len 0 m)) channels
      ∙ flat_same (λ c. packed_sample sink.format (saturate_signed (bits_of (width_of sink.format)) (at (run_at kept.runs c).sums k)))
      (λ c. samples.packed (sample_spec sink).format (saturate_signed (samples.width (sample_spec sink).format) (sum_of samples (sample_spec sink) (streams k) k c)))
      0 sink.channels (λ c high fed. sample_packed c k (omega (arith, fed)) less)

  pub frames_packed : concat (map (frame_of sink.format kept.runs) (range_with_len 0 n)) ≡ concat (map (λ k. mix_of samples (sample_spec sink) (streams k) k) (range_with_len 0 n))
  frames_packed =
      ap (λ (fs : List Frame). concat fs)
      (map_same (frame_of sink.format kept.runs) (λ k. mix_of samples (sample_spec sink) (streams k) k) 0 n (λ k high less. frame_packed k (omega (arith, less))))
