-- The bytes of frames that kept sums show.
use Rattle.std.proofs.Common.{◌≡◌, ℕ, zero, suc, ◌+◌, ◌-◌, ◌*◌, ◌/◌, ◌<◌, ◌≤◌, List, [], ◌∷◌, ◌++◌, length, map, take, drop, get_or, refl, ap, sym, ◌∙◌, arith, ℤ, pos, mul_comm}
use Rattle.std.proofs.Math.Nat.{add-mul, mul-le-mul_right, mul_assoc}
use Rattle.std.proofs.lemmas.Grind.{flat_map-append, common_steps}
use Rattle.std.proofs.lemmas.List.{get_or-take, get_or-drop, ext_get_or}
use Rattle.std.proofs.lemmas.List.FromFn.{length-map-range_with_len, get_or-map-range_with_len}
use Rattle.std.proofs.lemmas.List.Folds.{flat_map-map}
use Rattle.std.proofs.lemmas.List.Folds.{concat-append}
use Rattle.std.proofs.lemmas.Slice.{take-put_mid}
use borrow.Rule.Slice.PartMut.{put_mid}
use Rattle.std.specs.List.{concat, flat_map, range_with_len}
use Rattle.std.specs.Int.{saturate_signed}
use Rattle.std.proofs.lemmas.Int.{ints}
use Rattle.px_sample.specs.declared.format.Width.{Width}
use Rattle.px_sample.specs.declared.format.Width.TheVariants.{W8, W16, W32}
use Rattle.px_sample.specs.declared.format.Format.{Format}
use Rattle.px_sample.specs.Format.{width_of}
use Rattle.px_sample.specs.WorkValue.{IsWithin, packed_sample, packed_of}
use Rattle.px_kernel.specs.Kernel.{at, bits_of}
use Rattle.px_mixcache.specs.Run.{KeptRun}
use Rattle.px_mixcache.specs.Cache.{run_at}
use Rattle.px_mixcache.specs.Packing.{frame_of}

-- what a channel of a frame shows
abbrev pub clipped_at : Format → List KeptRun → ℕ → ℕ → ℤ
clipped_at format runs k c = saturate_signed (bits_of (width_of format)) (at (run_at runs c).sums k)

-- the bytes of a frame are those of what its channels show
pub packed_frame : (format : Format) (runs : List KeptRun) (k : ℕ) → packed_of format (map (clipped_at format runs k) (range_with_len 0 (length runs))) ≡ frame_of format runs k
packed_frame format runs k = flat_map-map (λ (x : ℤ). packed_sample format x) (clipped_at format runs k) (range_with_len 0 (length runs))

-- ---- values that stand frame by frame

abbrev pub frame_by_frame : (ℕ → ℕ → ℤ) → ℕ → ℕ → ℕ → List ℤ
frame_by_frame f channels a n = flat_map (λ k. map (f k) (range_with_len 0 channels)) (range_with_len a n)

joined : (k : ℕ) (xs : List ℤ) → take k xs ++ drop k xs ≡ xs
joined k xs = grind (arith, common_steps)

first_length : (k : ℕ) (xs : List ℤ) → k ≤ length xs → length (take k xs) ≡ k
first_length k xs fits = grind (arith, common_steps)

rest_length : (k : ℕ) (xs : List ℤ) → length (drop k xs) ≡ length xs - k
rest_length k xs = grind (arith, common_steps)

values_listed : (f : ℕ → ℤ) (xs : List ℤ) (n : ℕ) → length xs ≡ n → ((c : ℕ) → c < n → get_or xs c (pos 0) ≡ f c) → xs ≡ map f (range_with_len 0 n)
values_listed f xs n size each =
    ext_get_or (pos 0) xs (map f (range_with_len 0 n)) (size ∙ sym (length-map-range_with_len f 0 n))
    (λ i less. each i (omega (arith, less, size)) ∙ sym (get_or-map-range_with_len f 0 n i i (pos 0) (omega (arith, less, size)) (omega arith)))

pub stretch_listed : (f : ℕ → ℕ → ℤ) (channels a n : ℕ) (xs : List ℤ) → length xs ≡ channels * n
    → ((c j : ℕ) → c < channels → j < n → get_or xs (j * channels + c) (pos 0) ≡ f (a + j) c) → xs ≡ frame_by_frame f channels a n
stretch_listed f channels a zero [] size each = refl
stretch_listed f channels a zero (x ∷ xs) size each = absurd (omega (arith, size))
stretch_listed f channels a (suc n) xs size each =
    sym (joined channels xs)
    ∙ ap (λ (ys : List ℤ). ys ++ drop channels xs)
    (values_listed (f a) (take channels xs) channels (first_length channels xs (omega (arith, whole)))
    (λ c less. let here : c ≡ 0 * channels + c = omega arith in let at : a + 0 ≡ a = omega arith in
    get_or-take channels xs c (pos 0) less
    ∙ ap (λ (i : ℕ). get_or xs i (pos 0)) here ∙ each c 0 less (omega arith) ∙ ap (λ (k : ℕ). f k c) at))
    ∙ ap (λ (ys : List ℤ). map (f a) (range_with_len 0 channels) ++ ys)
    (stretch_listed f channels (a + 1) n (drop channels xs) (rest_length channels xs ∙ omega (arith, whole))
    (λ c j less few. let here : channels + (j * channels + c) ≡ (j + 1) * channels + c = omega (arith, add-mul j 1 channels) in let at : a + (j + 1) ≡ a + 1 + j = omega arith in
    get_or-drop channels xs (j * channels + c) (pos 0)
    ∙ ap (λ (i : ℕ). get_or xs i (pos 0)) here ∙ each c (j + 1) less (omega (arith, few)) ∙ ap (λ (k : ℕ). f k c) at))
  where
    whole : length xs ≡ channels + channels * n
    whole = omega (arith, size)

-- the bytes of a stretch are those of its frames
pub packed_stretch : (format : Format) (runs : List KeptRun) (a n : ℕ)
    → packed_of format (frame_by_frame (clipped_at format runs) (length runs) a n) ≡ concat (map (frame_of format runs) (range_with_len a n))
packed_stretch format runs a zero = refl
packed_stretch format runs a (suc n) =
    let first = map (clipped_at format runs a) (range_with_len 0 (length runs)) in
    let rest = frame_by_frame (clipped_at format runs) (length runs) (a + 1) n in
    flat_map-append (packed_sample format) first rest
    ∙ ap (λ (xs : List ℕ). xs ++ packed_of format rest) (packed_frame format runs a)
    ∙ ap (λ (xs : List ℕ). frame_of format runs a ++ xs) (packed_stretch format runs (a + 1) n)

-- ---- stretches that stand one behind another

range_parts : {X : Type 0} (f : ℕ → X) (a m n : ℕ) → map f (range_with_len a (m + n)) ≡ map f (range_with_len a m) ++ map f (range_with_len (a + m) n)
range_parts f a zero n =
    let here : a ≡ a + 0 = omega arith in
    let none : 0 + n ≡ n = omega arith in
    ap (λ (m : ℕ). map f (range_with_len a m)) none ∙ ap (λ (k : ℕ). map f (range_with_len k n)) here
range_parts f a (suc m) n =
    let here : a + 1 + m ≡ a + suc m = omega arith in
    let next : suc m + n ≡ suc (m + n) = omega arith in
    ap (λ (k : ℕ). map f (range_with_len a k)) next
    ∙ ap (λ xs. f a ∷ xs) (range_parts f (a + 1) m n ∙ ap (λ (k : ℕ). map f (range_with_len (a + 1) m) ++ map f (range_with_len k n)) here)

-- one more run stands behind the frames before it
pub run_more : (f : ℕ → List ℕ) (out ys : List ℕ) (ahead k g a n m : ℕ) → a ≤ length out → m ≡ a + length ys
    → take a out ≡ concat (map f (range_with_len ahead k)) → ys ≡ concat (map f (range_with_len (ahead + k) g)) → take m (put_mid a n out ys) ≡ concat (map f (range_with_len ahead (k + g)))
run_more f out ys ahead k g a n m room next before made =
    take-put_mid a n out ys m next room
    ∙ ap (λ (done : List ℕ). done ++ ys) before
    ∙ ap (λ (last : List ℕ). concat (map f (range_with_len ahead k)) ++ last) made
    ∙ sym (concat-append (map f (range_with_len ahead k)) (map f (range_with_len (ahead + k) g)))
    ∙ ap concat (sym (range_parts f ahead k g))

-- so many frames more fit
pub run_fits : (size done count frames total : ℕ) → done + count ≤ frames → total ≡ frames * size → done * size + count * size ≤ total
run_fits size done count frames total few are = omega (arith, are, mul-le-mul_right size few, add-mul done count size)

-- the bytes of a stretch, sample by sample
pub stretch_size : (count channels size : ℕ) → count * (channels * size) ≡ size * (channels * count)
stretch_size count channels size = mul_comm count (channels * size) ∙ ap (λ (n : ℕ). n * count) (mul_comm channels size) ∙ mul_assoc size channels count

-- nothing fits each width
pub nothing_within : (width : Width) → IsWithin width (pos 0)
nothing_within W8 = record { low = omega (arith, ints); high = omega (arith, ints) }
nothing_within W16 = record { low = omega (arith, ints); high = omega (arith, ints) }
nothing_within W32 = record { low = omega (arith, ints); high = omega (arith, ints) }

-- some frames of up to 32 channels stand in 256 places
pub some_most : (channels : ℕ) → 1 ≤ channels → channels ≤ 32 → 1 ≤ 256 / channels
some_most channels some few = grind (arith)
