-- The queue of a sink is orderly from the inputs that the core knows to be there.
use Rattle.std.specs.Prelude.{◌≡◌, ℕ, Bool, true, false, cond, ◌&&◌, nat_eq, List, [], ◌∷◌, map, filter, slice_get, Option, None, Some}
use Rattle.std.specs.FinMap as finite
use Rattle.px_types.specs.declared.ids.SinkId.{SinkId}
use Rattle.px_header.specs.declared.header.SinkSpec.{SinkSpec}
use Rattle.px_model.specs.Frame.{SampleSpec}
use Rattle.px_model.specs.Orderly.{Inputs, IsOrderly}
use Rattle.px_msg.specs.View.{sample_spec, message_of}
use Rattle.px_outcome.specs.declared.input.Input.{Input}
use Rattle.px_outcome.specs.declared.input.Way.{Way}
use Rattle.px_outcome.specs.declared.input.Way.TheVariants.{Coming, There, Left}
use Rattle.px_state.specs.State.{State}
use Rattle.px_state.specs.Out.{waiting_for}

abbrev pub is_there : Way → Bool
is_there Coming = false
is_there There = true
is_there Left = false

abbrev pub is_held_by : SinkId → Input → Bool
is_held_by sink x = nat_eq x.sink.0 sink.0 && is_there x.way

-- an input's index, with its sample spec
abbrev pub entry_of : Input → ℕ × SampleSpec
entry_of x = (x.index.0, sample_spec x.spec)

-- the sample spec of the first input with an index, where that passes a test
abbrev pub spec_in : (Input → Bool) → ℕ → List Input → Option SampleSpec
spec_in p i [] = None
spec_in p i (x ∷ xs) = cond (nat_eq x.index.0 i) (cond (p x) (Some (sample_spec x.spec)) None) (spec_in p i xs)

-- inputs by their indices, each with its sample spec
abbrev pub specs_of : List Input → Inputs
specs_of inputs = finite.from_entries (map entry_of inputs)

-- the inputs that the messages handed to a sink have left there
abbrev pub inputs_there : {P : Type 0} → State P → SinkId → Inputs
inputs_there state sink = specs_of (filter (is_held_by sink) state.inputs)

-- the messages queued for a sink are orderly from them, where spec_of reads a parcel's sample spec
abbrev pub IsOrderlyFor : {P : Type 0} → (P → SampleSpec) → State P → SinkId → SinkSpec → Type 0
IsOrderlyFor spec_of state sink s =
    IsOrderly spec_of (sample_spec s.spec) (inputs_there state sink) (map (message_of (λ p. p)) (waiting_for state sink))

-- for every sink
abbrev pub IsOrderlyState : {P : Type 0} → (P → SampleSpec) → State P → Type 0
IsOrderlyState spec_of state = (index : ℕ) (s : SinkSpec) → slice_get state.sinks index ≡ Some s → IsOrderlyFor spec_of state (record { 0 = index }) s
