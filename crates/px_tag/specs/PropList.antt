-- Property lists: keys with their values, in order, each key once.
use Rattle.std.specs.Prelude.{ℕ, Bool, true, not, cond, ◌&&◌, nat_eq, nat_lt, nat_le, List, [], ◌∷◌, length, fold, Option, None, Some}
use Rattle.std.specs.Cmp.Lexicographic.{pointwise}
use Rattle.std.specs.List.{list_all, list_any}
use Rattle.px_tag.specs.declared.mode.Mode.{Mode}
use Rattle.px_tag.specs.declared.mode.Mode.TheVariants.{Set, Merge, Replace}

-- a key and its value
abbrev pub Property : Type 0
Property = List ℕ × List ℕ

abbrev pub same_key : List ℕ → List ℕ → Bool
same_key a b = pointwise nat_eq a b

-- a key has at least one byte, all of them from 0x01 to 0x7F
abbrev pub is_key_byte : ℕ → Bool
is_key_byte b = nat_le 0x01 b && nat_le b 0x7F

abbrev pub is_key : List ℕ → Bool
is_key key = nat_lt 0 (length key) && list_all is_key_byte key

-- a value has any bytes, at most 65,536
abbrev pub is_value : List ℕ → Bool
is_value value = nat_le (length value) 65536

abbrev pub is_property : Property → Bool
is_property p = is_key p.0 && is_value p.1

-- whether a key is there
abbrev pub has_key : List Property → List ℕ → Bool
has_key list key = list_any (λ p. same_key key p.0) list

-- no key is there twice
abbrev pub is_distinct : List Property → Bool
is_distinct [] = true
is_distinct (p ∷ list) = not (has_key list p.0) && is_distinct list

-- the invariant of a property list
abbrev pub is_proplist : List Property → Bool
is_proplist list = list_all is_property list && is_distinct list

-- the value of a key
abbrev pub value_of : List Property → List ℕ → Option (List ℕ)
value_of [] key = None
value_of (p ∷ list) key = cond (same_key key p.0) (Some p.1) (value_of list key)

-- the list with a value for a key: a key that is there stays in its place, a new one goes last
abbrev pub with_value : List Property → List ℕ → List ℕ → List Property
with_value [] key value = (key, value) ∷ []
with_value (p ∷ list) key value = cond (same_key key p.0) ((p.0, value) ∷ list) (p ∷ with_value list key value)

-- the list without a key; the order closes up
abbrev pub without : List Property → List ℕ → List Property
without [] key = []
without (p ∷ list) key = cond (same_key key p.0) list (p ∷ without list key)

-- the list with all properties of the other list set
abbrev pub with_all : List Property → List Property → List Property
with_all list others = fold (λ done p. with_value done p.0 p.1) list others

-- the list that a written one means: a repeated key stays in its first place, with its last value
abbrev pub meaning : List Property → List Property
meaning written = with_all [] written

-- the list with those of the others whose keys weren't there
abbrev pub with_missing : List Property → List Property → List Property
with_missing list others = fold (λ done p. cond (has_key done p.0) done (with_value done p.0 p.1)) list others

-- an update: becomes the other list, or gets what is missing of it, or all of it
abbrev pub updated : Mode → List Property → List Property → List Property
updated Set list other = other
updated Merge list other = with_missing list other
updated Replace list other = with_all list other
