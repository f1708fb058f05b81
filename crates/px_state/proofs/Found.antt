-- What is found, and what goes where nothing is.
use Rattle.std.proofs.Common.{◌≡◌, ℕ, List, [], ◌∷◌, Some, None, Bool, true, false, cond, refl, ap, sym, subst, ◌∙◌}
use Rattle.std.specs.Prelude.{nat_eq}
use Rattle.std.specs.List.{find}
use Rattle.std.proofs.lemmas.Bool.{eqb-true}
use Rattle.std.proofs.lemmas.Option.{none-some, same_Some}
use Rattle.px_types.specs.declared.ids.InputId.{InputId}
use Rattle.px_outcome.specs.declared.input.Input.{Input}
use Rattle.px_state.specs.State.{has_index, input_of}
use Rattle.px_state.specs.Change.{drop_first}

pub found_test : {A : Type 0} (q : A → Bool) (xs : List A) (y : A) → find q xs ≡ Some y → q y ≡ true
found_test q [] y e = absurd (none-some y e)
found_test q (x ∷ xs) y e = step (found_test q xs y) (q x) refl e
  where
    step : (find q xs ≡ Some y → q y ≡ true) → (b : Bool) → q x ≡ b → cond b (Some x) (find q xs) ≡ Some y → q y ≡ true
    step later true h f = subst (λ z. q z ≡ true) (same_Some x y f) h
    step later false h f = later f

-- the input with an index is found by its own
pub by_own : (inputs : List Input) (index : InputId) (x : Input) → input_of inputs index ≡ Some x → input_of inputs x.index ≡ Some x
by_own inputs index x here = sym (ap (λ n. input_of inputs (record { 0 = n })) (own index.0 x.index.0 (found_test (has_index index) inputs x here))) ∙ here
  where
    own : (a b : ℕ) → nat_eq b a ≡ true → a ≡ b
    own a b e = sym (eqb-true b a e)

-- where none is found, none goes
pub none_goes : {A : Type 0} (q : A → Bool) (xs : List A) → find q xs ≡ None → drop_first q xs ≡ xs
none_goes q [] e = refl
none_goes {A} q (x ∷ xs) e = step (none_goes q xs) (q x) e
  where
    step : (find q xs ≡ None → drop_first q xs ≡ xs) → (b : Bool) → cond b (Some x) (find q xs) ≡ None → cond b xs (x ∷ drop_first q xs) ≡ x ∷ xs
    step later true f = absurd (none-some x (sym f))
    step later false f = ap (λ ys. x ∷ ys) (later f)
