-- A list that grows by what each of some things gives: what it has and what is left to come are all of it.
use Rattle.std.proofs.Common.{◌≡◌, ◌<◌, ◌≤◌, ◌+◌, ◌++◌, ℕ, List, [], ◌∷◌, length, get_or, drop, ap, sym, ◌∙◌}
use Rattle.std.proofs.lemmas.List.{append-nil, at_drop_more, at_drop_all}

-- one more
pub next_gives : {X Y : Type 0} (gives : List X → List Y) (xs : List X) (i : ℕ) (x : X) (old new all : List Y) → i < length xs → x ≡ get_or xs i x
    → ((more : List X) → new ++ gives more ≡ old ++ gives (x ∷ more)) → old ++ gives (drop i xs) ≡ all → new ++ gives (drop (i + 1) xs) ≡ all
next_gives {X} {Y} gives xs i x old new all l is grown before =
    grown (drop (i + 1) xs)
    ∙ ap (λ (y : X). old ++ gives (y ∷ drop (i + 1) xs)) is
    ∙ ap (λ (left : List Y). old ++ left) (sym (at_drop_more gives xs i x l))
    ∙ before

-- none is left
pub last_gave : {X Y : Type 0} (gives : List X → List Y) (xs : List X) (i : ℕ) (sofar all : List Y) → length xs ≤ i → gives [] ≡ [] → sofar ++ gives (drop i xs) ≡ all → sofar ≡ all
last_gave {X} {Y} gives xs i sofar all done nothing before =
    sym (append-nil sofar)
    ∙ ap (λ (left : List Y). sofar ++ left) (sym (at_drop_all gives xs i done ∙ nothing))
    ∙ before
