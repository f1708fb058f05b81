-- Lists of which the first element that passes a test is changed or removed.
use Rattle.std.specs.Prelude.{Bool, cond, List, [], ◌∷◌}

abbrev pub change_first : {A : Type 0} → (A → Bool) → (A → A) → List A → List A
change_first is change [] = []
change_first is change (x ∷ xs) = cond (is x) (change x ∷ xs) (x ∷ change_first is change xs)

abbrev pub drop_first : {A : Type 0} → (A → Bool) → List A → List A
drop_first is [] = []
drop_first is (x ∷ xs) = cond (is x) xs (x ∷ drop_first is xs)
