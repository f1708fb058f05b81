-- What an end of the outside holds, or has left, as contracts see it: the bytes, or None where they aren't visible.
use Rattle.std.specs.Prelude.{◌≡◌, ℕ, List, [], ◌++◌, Option, None, Some, ⊤}

-- what was left before these bytes were taken
abbrev pub before_taking : List ℕ → Option (List ℕ) → Option (List ℕ)
before_taking taken None = None
before_taking taken (Some after) = Some (taken ++ after)

-- what is held after these bytes were added
abbrev pub after_adding : Option (List ℕ) → List ℕ → Option (List ℕ)
after_adding None added = None
after_adding (Some before) added = Some (before ++ added)

-- nothing is left, where that is visible
abbrev pub IsAtEnd : Option (List ℕ) → Type 0
IsAtEnd None = ⊤
IsAtEnd (Some left) = left ≡ []

-- a fact of the bytes, where they are visible
abbrev pub WhereVisible : Option (List ℕ) → (List ℕ → Type 0) → Type 0
WhereVisible None fact = ⊤
WhereVisible (Some bytes) fact = fact bytes
