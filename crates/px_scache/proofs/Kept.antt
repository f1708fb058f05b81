-- What holds of all entries holds of those that stay, and of one that is found.
use Rattle.std.proofs.Common.{◌≡◌, Bool, true, false, List, [], ◌∷◌, ◌++◌, cond, filter, find, Option, Some, subst}
use Rattle.std.specs.List.{AllByRecursion}

module _ {X : Type 0} (P : X → Type 0) where
  chosen : (b : Bool) (x : X) (rest : List X) → P x → AllByRecursion P rest → AllByRecursion P (cond b (x ∷ rest) rest)
  chosen true x rest is all = (is, all)
  chosen false x rest is all = all

  pub kept : (test : X → Bool) (xs : List X) → AllByRecursion P xs → AllByRecursion P (filter test xs)
  kept test [] all = tt
  kept test (x ∷ xs) all = chosen (test x) x (filter test xs) all.0 (kept test xs all.1)

  one_of : (b : Bool) (y x : X) (rest : Option X) → P y → (rest ≡ Some x → P x) → cond b (Some y) rest ≡ Some x → P x
  one_of true y x rest is other e = let same : y ≡ x = cc in subst P same is
  one_of false y x rest is other e = other e

  pub found : (test : X → Bool) (xs : List X) (x : X) → AllByRecursion P xs → find test xs ≡ Some x → P x
  found test [] x all e = absurd cc
  found test (y ∷ ys) x all e = one_of (test y) y x (find test ys) all.0 (λ f. found test ys x all.1 f) e

  pub joined : (xs : List X) (x : X) → AllByRecursion P xs → P x → AllByRecursion P (xs ++ x ∷ [])
  joined [] x all is = (is, tt)
  joined (y ∷ ys) x all is = (all.0, joined ys x all.1 is)
