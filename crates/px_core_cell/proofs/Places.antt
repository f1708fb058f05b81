-- The element at a place, once one was replaced.
use Rattle.std.proofs.Common.{◌≡◌, ℕ, zero, suc, List, [], ◌∷◌, set, Some, refl, ap, sym, ◌∙◌}
use Rattle.std.specs.Prelude.{slice_get}
use Rattle.std.proofs.lemmas.List.{set-get_or}
use Rattle.std.proofs.lemmas.Option.{none-some, same_Some, get_or_from_slice_get}

module _ {A : Type 0} where
  pub elsewhere : (xs : List A) (i j : ℕ) (x : A) → (i ≡ j → ⊥) → slice_get (set xs i x) j ≡ slice_get xs j
  elsewhere [] i j x apart = refl
  elsewhere (y ∷ xs) zero zero x apart = absurd (apart refl)
  elsewhere (y ∷ xs) zero (suc j) x apart = refl
  elsewhere (y ∷ xs) (suc i) zero x apart = refl
  elsewhere (y ∷ xs) (suc i) (suc j) x apart = elsewhere xs i j x (λ e. apart (ap suc e))

  pub there : (xs : List A) (i : ℕ) (x y : A) → slice_get (set xs i x) i ≡ Some y → x ≡ y
  there [] i x y e = absurd (none-some y e)
  there (z ∷ xs) zero x y e = same_Some x y e
  there (z ∷ xs) (suc i) x y e = there xs i x y e

  -- or put back
  pub rests : (xs : List A) (i : ℕ) (x : A) → slice_get xs i ≡ Some x → set xs i x ≡ xs
  rests xs i x e = ap (λ y. set xs i y) (sym (get_or_from_slice_get xs i x x e)) ∙ set-get_or xs i x
