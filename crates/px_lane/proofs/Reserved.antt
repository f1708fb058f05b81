-- Loops that take memory for each item of a list.
use Rattle.std.proofs.Common.{◌≡◌, ℕ, zero, suc, ◌+◌, ◌<◌, List, [], ◌∷◌, ◌++◌, map, length, take, refl, sym, subst, arith}
use Rattle.std.specs.Prelude.{slice_set, slice_index_or}
use Rattle.std.specs.List.{AllByRecursion}
use Rattle.std.proofs.lemmas.List.{take_more_set}

-- what it is in the definitions stays
pub same_set : {X Y : Type 0} (f : X → Y) (xs : List X) (i : ℕ) (d y : X) → f y ≡ f (slice_index_or xs i d) → map f (slice_set xs i y) ≡ map f xs
same_set f [] i d y e = refl
same_set f (x ∷ xs) zero d y e = λ k. e k ∷ map f xs
same_set f (x ∷ xs) (suc i) d y e = λ k. f x ∷ same_set f xs i d y e k

all_join : {X : Type 0} (P : X → Type 0) (xs : List X) (y : X) → AllByRecursion P xs → P y → AllByRecursion P (xs ++ y ∷ [])
all_join P [] y h p = (p, tt)
all_join P (x ∷ xs) y h p = (h.0, all_join P xs y h.1 p)

-- one more has it
pub all_more : {X : Type 0} (P : X → Type 0) (xs : List X) (i : ℕ) (y : X) → i < length xs → AllByRecursion P (take i xs) → P y → AllByRecursion P (take (i + 1) (slice_set xs i y))
all_more P xs i y l h p = subst (AllByRecursion P) (sym (take_more_set xs i y l)) (all_join P (take i xs) y h p)

pub all_in : {X Y : Type 0} (P : Y → Type 0) (f : X → Y) (xs : List X) (i : ℕ) (x : X) → i < length xs → x ≡ slice_index_or xs i x → AllByRecursion P (map f xs) → P (f x)
all_in P f xs i x l is h = subst (λ (z : _). P (f z)) (sym is) (go xs i x l h)
  where
    go : (xs : List _) (i : ℕ) (d : _) → i < length xs → AllByRecursion P (map f xs) → P (f (slice_index_or xs i d))
    go [] i d l h = absurd (omega (arith, l))
    go (x ∷ xs) zero d l h = h.0
    go (x ∷ xs) (suc i) d l h = go xs i d (omega (arith, l)) h.1
