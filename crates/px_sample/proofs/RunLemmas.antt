-- Runs of values that are made one after another.
use Rattle.std.proofs.Common.{◌≡◌, ℕ, ◌+◌, ◌-◌, ◌*◌, ◌/◌, ◌<◌, ◌≤◌, List, [], ◌∷◌, ◌++◌, length, map, take, drop, get_or, ◌≢◌, ℤ, w32, SFits, to_z, of_z, ap, sym, ◌∙◌, subst, arith, below_more, append-nil}
use Rattle.std.proofs.Math.ListN.{set}
use Rattle.std.proofs.Math.Nat.{mul-div_cancel_left, mul-le-mul_left}
use Rattle.std.proofs.lemmas.Int.{ints, to_z-of_z}
use Rattle.std.proofs.lemmas.List.{take_more, take_more_set, map-append, get_or-set_other, get_or-set_same}
use Rattle.std.proofs.lemmas.Grind.{flat_map-append, common_steps}
use Rattle.std.proofs.lemmas.Slice.{take-put_mid}
use Rattle.std.specs.List.{flat_map}
use borrow.Rule.Slice.PartMut.{put_mid}
use Rattle.px_sample.specs.declared.format.Width.{Width}
use Rattle.px_sample.specs.declared.format.Width.TheVariants.{W8, W16, W32}
use Rattle.px_sample.specs.WorkValue.{IsWithin}

-- one more value is written in its place
pub mapped_more : {A B : Type 0} (f : A → B) (out : List B) (xs : List A) (i : ℕ) (d : A) (y : B) →
    i < length out → i < length xs → take i out ≡ map f (take i xs) → y ≡ f (get_or xs i d) →
    take (i + 1) (set out i y) ≡ map f (take (i + 1) xs)
mapped_more f out xs i d y room there before made =
    take_more_set out i y room
    ∙ ap (λ done. done ++ y ∷ []) before
    ∙ ap (λ last. map f (take i xs) ++ last ∷ []) made
    ∙ sym (map-append f (take i xs) (get_or xs i d ∷ []))
    ∙ ap (map f) (sym (take_more xs i d there))

-- so many samples of one size
pub whole_samples : (size count total : ℕ) → 0 < size → total ≡ size * count → total / size ≡ count
whole_samples size count total some are = ap (λ n. n / size) are ∙ mul-div_cancel_left count some

-- what holds of each value so far holds with one more
pub each_more : {B : Type 0} (P : B → Type 0) (out : List B) (i : ℕ) (y : B) → i < length out →
    ((k : ℕ) (d : B) → k < i → P (get_or out k d)) → P y →
    (k : ℕ) (d : B) → k < i + 1 → P (get_or (set out i y) k d)
each_more P out i y room before here k d below =
    below_more (λ j. P (get_or (set out i y) j d)) i
    (λ j less. let other : j ≢ i = omega arith in subst P (sym (get_or-set_other out i j y d other)) (before j d less))
    (subst P (sym (get_or-set_same out i y d room)) here)
    k below

-- what lies past the value that is written stays
pub rest_stays : {B : Type 0} (out old : List B) (i : ℕ) (y : B) →
    ((k : ℕ) (d : B) → i ≤ k → get_or out k d ≡ get_or old k d) →
    (k : ℕ) (d : B) → i + 1 ≤ k → get_or (set out i y) k d ≡ get_or old k d
rest_stays out old i y before k d past =
    let other : k ≢ i = omega arith in get_or-set_other out i k y d other ∙ before k d (omega arith)

-- one more sample is written after those before it
pub packed_more : {A B : Type 0} (f : A → List B) (out ys : List B) (xs : List A) (a k m i : ℕ) (d : A) →
    i < length xs → a ≤ length out → m ≡ a + length ys → take a out ≡ flat_map f (take i xs) → ys ≡ f (get_or xs i d) →
    take m (put_mid a k out ys) ≡ flat_map f (take (i + 1) xs)
packed_more f out ys xs a k m i d there room next before made =
    take-put_mid a k out ys m next room
    ∙ ap (λ done. done ++ ys) before
    ∙ ap (λ last. flat_map f (take i xs) ++ last) (made ∙ sym (append-nil (f (get_or xs i d))))
    ∙ sym (flat_map-append f (take i xs) (get_or xs i d ∷ []))
    ∙ ap (flat_map f) (sym (take_more xs i d there))

-- the next of so many samples of one size fits
pub next_fits : (size i count total : ℕ) → i < count → total ≡ size * count → i * size + size ≤ total
next_fits size i count total there are =
    let next : i + 1 ≤ count = omega arith in omega (arith, mul-le-mul_left size next)

-- how long a part of a run is
pub length_part : {A : Type 0} (xs : List A) (a k : ℕ) → a + k ≤ length xs → length (take (a + k - a) (drop a xs)) ≡ k
length_part xs a k fits = grind (arith, common_steps)

-- a value of any width fits 32 bits
pub fits_word : (width : Width) (value : ℤ) → IsWithin width value → SFits w32 value
fits_word W8 value within = let low = within.low in let high = within.high in omega (arith, ints)
fits_word W16 value within = let low = within.low in let high = within.high in omega (arith, ints)
fits_word W32 value within = let low = within.low in let high = within.high in omega (arith, ints)

-- a value of any width is read as it is
pub read_as_is : (width : Width) (value : ℤ) → IsWithin width value → to_z w32 (of_z w32 value) ≡ value
read_as_is width value within = to_z-of_z w32 value (fits_word width value within)
