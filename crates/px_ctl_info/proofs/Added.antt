-- Loops that add what is told of one more element after the other.
use Rattle.std.proofs.Common.{◌≡◌, ℕ, ◌+◌, ◌<◌, ◌++◌, ◌∷◌, List, length, get_or, drop, ap, sym, ◌∙◌}
use Rattle.std.proofs.lemmas.List.{at_drop_more}

-- what was added so far, and what is told of those that are left, stays the whole where one more is added
pub one_added : {A B : Type 0} (infos_of : List A → List B) (old new all : List B) (xs : List A) (i : ℕ) (x : A) → i < length xs → x ≡ get_or xs i x
    → ((more : List A) → new ++ infos_of more ≡ old ++ infos_of (x ∷ more)) → old ++ infos_of (drop i xs) ≡ all → new ++ infos_of (drop (i + 1) xs) ≡ all
one_added {A} infos_of old new all xs i x below e one before =
    one (drop (i + 1) xs) ∙ ap (λ y. old ++ infos_of (y ∷ drop (i + 1) xs)) e ∙ sym (at_drop_more (λ (ys : List A). old ++ infos_of ys) xs i x below) ∙ before
