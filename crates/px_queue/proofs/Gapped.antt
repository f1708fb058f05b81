-- Lists in two parts, at a place among them.
use Rattle.std.proofs.Common.{◌≡◌, ℕ, zero, suc, ◌+◌, ◌-◌, ◌<◌, ◌≤◌, List, [], ◌∷◌, ◌++◌, length, take, drop, refl, ap, sym, ◌∙◌, arith, Option, Some, None, length-take}
use Rattle.std.specs.Prelude.{slice_index_or, IsSome}
use Rattle.std.specs.Option.{option_to_list}
use Rattle.std.proofs.lemmas.Bool.{false≢true}
use Rattle.std.proofs.lemmas.List.{take-append-drop, drop-append-le}
use Rattle.px_queue.specs.Laid.{Laid}

-- ---- by a number

pub or_take : (xs : List Laid) (n k : ℕ) (d : Laid) → k < n → slice_index_or (take n xs) k d ≡ slice_index_or xs k d
or_take xs zero k d few = absurd (omega (arith, few))
or_take [] (suc n) k d few = refl
or_take (x ∷ xs) (suc n) zero d few = refl
or_take (x ∷ xs) (suc n) (suc k) d few = or_take xs n k d (omega arith)

pub or_left : (xs ys : List Laid) (k : ℕ) (d : Laid) → k < length xs → slice_index_or (xs ++ ys) k d ≡ slice_index_or xs k d
or_left [] ys k d few = absurd (omega (arith, few))
or_left (x ∷ xs) ys zero d few = refl
or_left (x ∷ xs) ys (suc k) d few = or_left xs ys k d (omega arith)

pub or_right : (xs ys : List Laid) (k : ℕ) (d : Laid) → length xs ≤ k → slice_index_or (xs ++ ys) k d ≡ slice_index_or ys (k - length xs) d
or_right [] ys k d past = let same : k ≡ k - 0 = omega arith in ap (λ (n : ℕ). slice_index_or ys n d) same
or_right (x ∷ xs) ys zero d past = absurd (omega (arith, past))
or_right (x ∷ xs) ys (suc k) d past =
    let same : k - length xs ≡ suc k - suc (length xs) = omega arith in
    or_right xs ys k d (omega arith) ∙ ap (λ (n : ℕ). slice_index_or ys n d) same

-- ---- both parts of two lists, one after the other

pub take_more : (xs ys : List Laid) (n : ℕ) → length xs ≤ n → take n (xs ++ ys) ≡ xs ++ take (n - length xs) ys
take_more [] ys n past = let same : n ≡ n - 0 = omega arith in ap (λ (k : ℕ). take k ys) same
take_more (x ∷ xs) ys zero past = absurd (omega (arith, past))
take_more (x ∷ xs) ys (suc n) past =
    let same : n - length xs ≡ suc n - suc (length xs) = omega arith in
    ap (λ (zs : List Laid). x ∷ zs) (take_more xs ys n (omega arith)) ∙ ap (λ (k : ℕ). x ∷ (xs ++ take k ys)) same

pub drop_more : (xs ys : List Laid) (n : ℕ) → length xs ≤ n → drop n (xs ++ ys) ≡ drop (n - length xs) ys
drop_more [] ys n past = let same : n ≡ n - 0 = omega arith in ap (λ (k : ℕ). drop k ys) same
drop_more (x ∷ xs) ys zero past = absurd (omega (arith, past))
drop_more (x ∷ xs) ys (suc n) past =
    let same : n - length xs ≡ suc n - suc (length xs) = omega arith in
    drop_more xs ys n (omega arith) ∙ ap (λ (k : ℕ). drop k ys) same

pub take_seam : (xs ys : List Laid) (n : ℕ) → n ≡ length xs → take n (xs ++ ys) ≡ xs
take_seam [] ys zero is = refl
take_seam [] ys (suc n) is = absurd (omega (arith, is))
take_seam (x ∷ xs) ys zero is = absurd (omega (arith, is))
take_seam (x ∷ xs) ys (suc n) is = ap (λ (zs : List Laid). x ∷ zs) (take_seam xs ys n (omega arith))

pub drop_seam : (xs ys : List Laid) (n : ℕ) → n ≡ length xs → drop n (xs ++ ys) ≡ ys
drop_seam [] ys zero is = refl
drop_seam [] ys (suc n) is = absurd (omega (arith, is))
drop_seam (x ∷ xs) ys zero is = absurd (omega (arith, is))
drop_seam (x ∷ xs) ys (suc n) is = drop_seam xs ys n (omega arith)

-- the first of all is taken out
pub taken_first : (o : Option Laid) (all rest : List Laid) (n : ℕ) → IsSome o → all ≡ option_to_list o ++ rest → 0 < n → take n all ≡ option_to_list o ++ take (n - 1) rest
taken_first None all rest n some is h = absurd (false≢true some)
taken_first (Some x) all rest zero some is h = absurd (omega (arith, h))
taken_first (Some x) all rest (suc n) some is h =
    let same : n ≡ suc n - 1 = omega arith in
    ap (take (suc n)) is ∙ ap (λ (k : ℕ). x ∷ take k rest) same

pub dropped_first : (o : Option Laid) (all rest : List Laid) (n : ℕ) → IsSome o → all ≡ option_to_list o ++ rest → 0 < n → drop n all ≡ drop (n - 1) rest
dropped_first None all rest n some is h = absurd (false≢true some)
dropped_first (Some x) all rest zero some is h = absurd (omega (arith, h))
dropped_first (Some x) all rest (suc n) some is h =
    let same : n ≡ suc n - 1 = omega arith in
    ap (drop (suc n)) is ∙ ap (λ (k : ℕ). drop k rest) same

-- one more is put before all
pub put_first : (x : Laid) (rest : List Laid) (n m : ℕ) → m ≡ n + 1 → take m (x ∷ rest) ≡ x ∷ take n rest
put_first x rest n m is = let same : m ≡ suc n = omega (arith, is) in ap (λ (k : ℕ). take k (x ∷ rest)) same

pub kept_after : (x : Laid) (rest : List Laid) (n m : ℕ) → m ≡ n + 1 → drop m (x ∷ rest) ≡ drop n rest
kept_after x rest n m is = let same : m ≡ suc n = omega (arith, is) in ap (λ (k : ℕ). drop k (x ∷ rest)) same

-- a list in two parts is parted further in front
pub drop_between : (xs : List Laid) (n m : ℕ) → n ≤ length (take m xs) → drop n xs ≡ drop n (take m xs) ++ drop m xs
drop_between xs n m few = ap (drop n) (sym (take-append-drop m xs)) ∙ drop-append-le n (take m xs) (drop m xs) few

pub nothing_there : (xs : List Laid) → length xs ≡ 0 → xs ≡ []
nothing_there [] none = refl
nothing_there (x ∷ xs) none = absurd (omega arith)
