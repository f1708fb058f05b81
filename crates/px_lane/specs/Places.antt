-- Where an index stands among inputs sorted by index.
use Rattle.std.specs.Prelude.{◌≡◌, ℕ, zero, suc, ◌<◌, List, [], ◌∷◌, ⊤}
use Rattle.px_model.specs.Sink.{AllAbove}
use Rattle.px_lane.specs.declared.input.Input.{Input}
use Rattle.px_lane.specs.Inputs.{inputs_of}

-- the first k indices lie below i
abbrev pub AreBelow : ℕ → ℕ → List Input → Type 0
AreBelow i zero inputs = ⊤
AreBelow i (suc k) [] = ⊥
AreBelow i (suc k) (x ∷ inputs) = (x.index.0 < i) × AreBelow i k inputs

-- index i stands at place k, those before it lie below and those after it above
abbrev pub IsAt : ℕ → ℕ → List Input → Type 0
IsAt i k [] = ⊥
IsAt i zero (x ∷ inputs) = (x.index.0 ≡ i) × AllAbove i (inputs_of inputs)
IsAt i (suc k) (x ∷ inputs) = (x.index.0 < i) × IsAt i k inputs

-- it stands nowhere: the first k lie below and the others above
abbrev pub IsGap : ℕ → ℕ → List Input → Type 0
IsGap i zero inputs = AllAbove i (inputs_of inputs)
IsGap i (suc k) [] = ⊥
IsGap i (suc k) (x ∷ inputs) = (x.index.0 < i) × IsGap i k inputs
