-- The factors of the inputs on a sink, as its group of volumes gives them.
use Rattle.std.specs.Prelude.{ℕ, List, [], ◌∷◌, flat_map, unwrap_or, Option, None, Some}
use Rattle.px_types.specs.declared.ids.InputId.{InputId}
use Rattle.px_types.specs.declared.ids.SinkId.{SinkId}
use Rattle.px_flat.specs.FlatVolume.{FlatGroup, factors_for}
use Rattle.px_msg.specs.declared.factors.InputFactors.{InputFactors}
use Rattle.px_msg.specs.declared.message.Msg.{Msg}
use Rattle.px_msg.specs.declared.message.Msg.TheVariants.{Factors}
use Rattle.px_outcome.specs.declared.change.Change.{Change}
use Rattle.px_outcome.specs.declared.change.Change.TheVariants.{Regrouped}
use Rattle.px_outcome.specs.declared.input.Input.{Input}

-- the factors of an input, where it has some
abbrev pub gains_of : InputId → Option (List ℕ) → List InputFactors
gains_of input None = []
gains_of input (Some factors) = record { input = input; factors = factors } ∷ []

-- the factors that a group gives inputs, in their order; one that isn't in the group has none
abbrev pub factor_list : FlatGroup → List Input → List InputFactors
factor_list group inputs = flat_map (λ x. gains_of (Input.index x) (factors_for group (Input.index x))) inputs

-- the factors of an input that is in the group
abbrev pub own_factors : FlatGroup → InputId → List ℕ
own_factors group input = unwrap_or (factors_for group input) []

-- the sink's group is set, and the factors of these inputs are posted to it
abbrev pub regrouped : {P : Type 0} → SinkId → FlatGroup → List Input → Change (Msg P) FlatGroup
regrouped sink group inputs = Regrouped sink group (Factors (factor_list group inputs))
