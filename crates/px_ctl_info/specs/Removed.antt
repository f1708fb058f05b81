-- Keys that are to be removed from a property list, marked in a list of their own, and what a pass over the list leaves.
use Rattle.std.specs.Prelude.{ℕ, Bool, not, cond, List, [], filter, fold}
use Rattle.std.specs.List.{list_any}
use Rattle.px_tag.specs.PropList.{Property, same_key, has_key, with_value}

-- the key of a property is one of these
abbrev pub is_among : List (List ℕ) → Property → Bool
is_among keys p = list_any (same_key p.0) keys

-- a list with each of these keys, without values
abbrev pub marked : List Property → List (List ℕ) → List Property
marked marks keys = fold (λ done key. with_value done key []) marks keys

-- the properties whose keys aren't marked
abbrev pub kept : List Property → List Property → List Property
kept marks list = filter (λ p. not (has_key marks p.0)) list

-- a list with one more property, unless its key is marked
abbrev pub with_unmarked : List Property → List Property → Property → List Property
with_unmarked marks made p = cond (has_key marks p.0) made (with_value made p.0 p.1)
