-- Effects are shown one after the other.
use Rattle.std.proofs.Common.{◌≡◌, List, [], ◌∷◌, ◌++◌, refl, ap, sym, ◌∙◌}
use Rattle.std.proofs.lemmas.List.{append_assoc}
use Rattle.px_state.specs.declared.effect.Effect.{Effect}
use Rattle.px_sieve.specs.Scene.{Shift, Unshifted, shifted_one, shifted}

pub unshifted : (effects : List Effect) → effects ≡ shifted Unshifted effects
unshifted [] = refl
unshifted (effect ∷ effects) = ap (λ l. effect ∷ l) (unshifted effects)

pub shown-next : (shift : Shift) (all now total one : List Effect) (effect : Effect) (rest old : List Effect) → now ≡ all ++ one → one ≡ shifted_one shift effect → old ≡ effect ∷ rest
    → all ++ shifted shift old ≡ total → now ++ shifted shift rest ≡ total
shown-next shift all now total one effect rest old next is front sum =
    ap (λ l. l ++ shifted shift rest) (next ∙ ap (λ o. all ++ o) is) ∙ append_assoc all (shifted_one shift effect) (shifted shift rest) ∙ ap (λ es. all ++ shifted shift es) (sym front) ∙ sum
