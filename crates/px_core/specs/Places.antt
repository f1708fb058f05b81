-- The place of an index in inputs of rising index.
use Rattle.std.specs.Prelude.{ℕ, zero, suc, ◌<◌, List, [], ◌∷◌, ⊤}
use Rattle.px_outcome.specs.declared.input.Input.{Input}

-- the first k indices lie below i
abbrev pub AreBelow : ℕ → ℕ → List Input → Type 0
AreBelow i zero inputs = ⊤
AreBelow i (suc k) [] = ⊥
AreBelow i (suc k) (x ∷ inputs) = ((Input.index x).0 < i) × AreBelow i k inputs
