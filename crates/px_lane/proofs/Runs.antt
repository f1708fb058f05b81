-- Runs of frames that a stream gives, and the bytes of their mix.
use Rattle.std.proofs.Common.{◌≡◌, ℕ, zero, suc, ◌+◌, ◌-◌, ◌*◌, ◌^◌, ◌<◌, ◌≤◌, List, [], ◌∷◌, ◌++◌, length, map, take, drop, get_or, Option, Some, None, Bool, true, false, cond, refl, ap, sym, ◌∙◌, arith, ⊎_elim, ℤ, pos}
use Rattle.std.specs.Prelude.{nat_lt}
use Rattle.std.proofs.Math.Nat.{add-mul, mul-le-mul_right}
use Rattle.std.proofs.lemmas.Bool.{cases_lt, false≢true}
use Rattle.std.proofs.lemmas.Bool.Decides.{nat_tests}
use Rattle.std.proofs.lemmas.Grind.{flat_map-append, common_steps}
use Rattle.std.proofs.lemmas.List.{map-append, get_or-take, get_or-drop}
use Rattle.std.specs.List.{concat, flat_map, range_with_len}
use Rattle.std.proofs.lemmas.List.Folds.{concat-append}
use Rattle.std.proofs.lemmas.Slice.{take-put_mid}
use borrow.Rule.Slice.PartMut.{put_mid}
use Rattle.std.specs.Int.{saturate_signed}
use Rattle.px_sample.specs.declared.format.Width.{Width}
use Rattle.px_sample.specs.declared.spec.Spec.{Spec}
use Rattle.px_sample.specs.Format.{width_of}
use Rattle.px_sample.specs.WorkValue.{packed_sample, packed_of}
use Rattle.px_model.specs.Frame.{Frame}
use Rattle.px_model.specs.Held.{place}
use Rattle.px_model.specs.Queue.{FrameAhead, nothing, sound_of, left_of, is_short}
use Rattle.px_model.specs.Stream.{Stream, frame_at}
use Rattle.px_model.specs.Mix.{sum_of, mix_of}
use Rattle.px_msg.specs.View.{sample_spec}
use Rattle.px_stream.specs.Samples.{samples, bit_width}
use Rattle.px_stream.specs.Values.{value_at, GivesValues}
use Rattle.px_stream.proofs.Reading.{is_some}
use Rattle.px_lane.proofs.Summed.{sums_listed, packed_mix}

-- ---- what a stream gives

sound_some : (o : Option Frame) → sound_of o ≡ nothing → ⊥
sound_some None e = false≢true (sym (ap is_some e))
sound_some (Some f) e = false≢true (sym (ap is_some e))

inside : (k n : ℕ) (x y : FrameAhead) → k < n → cond (nat_lt k n) x y ≡ x
inside k n x y less = grind (arith, nat_tests)

outside : (k n : ℕ) (x y : FrameAhead) → n ≤ k → cond (nat_lt k n) x y ≡ y
outside k n x y past = grind (arith, nat_tests)

none_past : (corked short : Bool) (a b n : ℕ) (x y : FrameAhead) → (x ≡ nothing → ⊥) → a ≤ b
    → cond corked nothing (cond short nothing (cond (nat_lt a n) x nothing)) ≡ nothing
    → cond corked nothing (cond short nothing (cond (nat_lt b n) y nothing)) ≡ nothing
none_past true short a b n x y some far none = refl
none_past false true a b n x y some far none = refl
none_past false false a b n x y some far none =
    ⊎_elim
    (λ (less : b < n). absurd (some (sym (inside a n x nothing (omega (arith, less, far))) ∙ none)))
    (λ (past : n ≤ b). outside b n y nothing past)
    (cases_lt b n)

-- where no frame is given, none is given later
pub nothing_past : (s : Stream) (a b : ℕ) → frame_at s a ≡ nothing → a ≤ b → frame_at s b ≡ nothing
nothing_past s a b none far =
    none_past s.corked (is_short s.queue) a b (left_of s.queue) (sound_of (place s.queue.held a)) (sound_of (place s.queue.held b)) (sound_some (place s.queue.held a)) far none

-- over zeros, each place of the runs has the value there
pub run_value : (width : Width) (s : Stream) (k n g : ℕ) (old new : List ℤ) → GivesValues width s k n g old new → k + n < 2 ^ 32
    → (c j : ℕ) → c < length s.feed → j < n → get_or old (c * n + j) (pos 0) ≡ pos 0 → get_or new (c * n + j) (pos 0) ≡ value_at width s c (frame_at s (k + j))
run_value width s k n g old new gives near c j fed few zeros =
    ⊎_elim
    (λ (given : j < g). gives.values c j fed given)
    (λ (past : g ≤ j).
    let none : frame_at s (k + g) ≡ nothing = gives.greatest (omega (arith, past, few)) (omega (arith, past, few, near)) in
    gives.rest c j fed past few ∙ zeros ∙ sym (ap (λ (a : FrameAhead). value_at width s c a) (nothing_past s (k + g) (k + j) none (omega (arith, past)))))
    (cases_lt j g)

-- ---- the bytes of a run

-- the values of each channel, frame by frame
abbrev pub frame_by_frame : (ℕ → ℕ → ℤ) → ℕ → ℕ → ℕ → List ℤ
frame_by_frame f channels a n = flat_map (λ k. map (f k) (range_with_len 0 channels)) (range_with_len a n)

joined : (k : ℕ) (xs : List ℤ) → take k xs ++ drop k xs ≡ xs
joined k xs = grind (arith, common_steps)

first_length : (k : ℕ) (xs : List ℤ) → k ≤ length xs → length (take k xs) ≡ k
first_length k xs fits = grind (arith, common_steps)

rest_length : (k : ℕ) (xs : List ℤ) → length (drop k xs) ≡ length xs - k
rest_length k xs = grind (arith, common_steps)

pub run_listed : (f : ℕ → ℕ → ℤ) (channels a n : ℕ) (sums : List ℤ) → length sums ≡ channels * n
    → ((c j : ℕ) → c < channels → j < n → get_or sums (j * channels + c) (pos 0) ≡ f (a + j) c) → sums ≡ frame_by_frame f channels a n
run_listed f channels a zero [] size each = refl
run_listed f channels a zero (x ∷ sums) size each = absurd (omega (arith, size))
run_listed f channels a (suc n) sums size each =
    sym (joined channels sums)
    ∙ ap (λ (xs : List ℤ). xs ++ drop channels sums)
    (sums_listed (f a) (take channels sums) channels (first_length channels sums (omega (arith, whole)))
    (λ c less. let here : c ≡ 0 * channels + c = omega arith in let at : a + 0 ≡ a = omega arith in
    get_or-take channels sums c (pos 0) less
    ∙ ap (λ (i : ℕ). get_or sums i (pos 0)) here ∙ each c 0 less (omega arith) ∙ ap (λ (k : ℕ). f k c) at))
    ∙ ap (λ (xs : List ℤ). map (f a) (range_with_len 0 channels) ++ xs)
    (run_listed f channels (a + 1) n (drop channels sums) (rest_length channels sums ∙ omega (arith, whole))
    (λ c j less few. let here : channels + (j * channels + c) ≡ (j + 1) * channels + c = omega (arith, add-mul j 1 channels) in let at : a + (j + 1) ≡ a + 1 + j = omega arith in
    get_or-drop channels sums (j * channels + c) (pos 0)
    ∙ ap (λ (i : ℕ). get_or sums i (pos 0)) here ∙ each c (j + 1) less (omega (arith, few)) ∙ ap (λ (k : ℕ). f k c) at))
  where
    whole : length sums ≡ channels + channels * n
    whole = omega (arith, size)

-- the sums of a run, clipped and packed, are its frames of the definition
pub packed_run : (sink : Spec) (streams : List Stream) (a n : ℕ)
    → packed_of sink.format (map (saturate_signed (bit_width (width_of sink.format))) (frame_by_frame (sum_of samples (sample_spec sink) streams) sink.channels a n))
    ≡ concat (map (mix_of samples (sample_spec sink) streams) (range_with_len a n))
packed_run sink streams a zero = refl
packed_run sink streams a (suc n) =
    let clip = λ (x : ℤ). saturate_signed (bit_width (width_of sink.format)) x in
    let first = map (sum_of samples (sample_spec sink) streams a) (range_with_len 0 sink.channels) in
    let rest = frame_by_frame (sum_of samples (sample_spec sink) streams) sink.channels (a + 1) n in
    ap (packed_of sink.format) (map-append clip first rest)
    ∙ flat_map-append (packed_sample sink.format) (map clip first) (map clip rest)
    ∙ ap (λ (xs : List ℕ). xs ++ packed_of sink.format (map clip rest)) (packed_mix sink streams a)
    ∙ ap (λ (xs : List ℕ). mix_of samples (sample_spec sink) streams a ++ xs) (packed_run sink streams (a + 1) n)

-- ---- runs that stand one behind another

pub range_parts : {X : Type 0} (f : ℕ → X) (a m n : ℕ) → map f (range_with_len a (m + n)) ≡ map f (range_with_len a m) ++ map f (range_with_len (a + m) n)
range_parts f a zero n =
    let here : a ≡ a + 0 = omega arith in
    let none : 0 + n ≡ n = omega arith in
    ap (λ (m : ℕ). map f (range_with_len a m)) none ∙ ap (λ (k : ℕ). map f (range_with_len k n)) here
range_parts f a (suc m) n =
    let here : a + 1 + m ≡ a + suc m = omega arith in
    let next : suc m + n ≡ suc (m + n) = omega arith in
    ap (λ (k : ℕ). map f (range_with_len a k)) next
    ∙ ap (λ xs. f a ∷ xs) (range_parts f (a + 1) m n ∙ ap (λ (k : ℕ). map f (range_with_len (a + 1) m) ++ map f (range_with_len k n)) here)

-- one more run stands behind the frames before it
pub run_more : (f : ℕ → List ℕ) (out ys : List ℕ) (ahead k g a n m : ℕ) → a ≤ length out → m ≡ a + length ys
    → take a out ≡ concat (map f (range_with_len ahead k)) → ys ≡ concat (map f (range_with_len (ahead + k) g)) → take m (put_mid a n out ys) ≡ concat (map f (range_with_len ahead (k + g)))
run_more f out ys ahead k g a n m room next before made =
    take-put_mid a n out ys m next room
    ∙ ap (λ (done : List ℕ). done ++ ys) before
    ∙ ap (λ (last : List ℕ). concat (map f (range_with_len ahead k)) ++ last) made
    ∙ sym (concat-append (map f (range_with_len ahead k)) (map f (range_with_len (ahead + k) g)))
    ∙ ap concat (sym (range_parts f ahead k g))

-- so many frames more fit
pub run_fits : (size done count frames total : ℕ) → done + count ≤ frames → total ≡ frames * size → done * size + count * size ≤ total
run_fits size done count frames total few are = omega (arith, are, mul-le-mul_right size few, add-mul done count size)
