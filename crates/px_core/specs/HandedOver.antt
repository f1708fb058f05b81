-- What becomes of an input whose stream its sink hands over.
use Rattle.std.specs.Prelude.{◌≡◌, ℕ, not, cond, List, ◌∷◌, ◌++◌, map, filter, slice_get, Some, IsSome, Contains}
use Rattle.px_types.specs.declared.ids.InputId.{InputId}
use Rattle.px_types.specs.declared.ids.SinkId.{SinkId}
use Rattle.px_model.specs.Frame.{SampleSpec}
use Rattle.px_flat.specs.FlatVolume.{FlatGroup, member_of}
use Rattle.px_msg.specs.declared.message.Msg.{Msg}
use Rattle.px_msg.specs.declared.message.Msg.TheVariants.{Attach}
use Rattle.px_msg.specs.View.{sample_spec}
use Rattle.px_outcome.specs.declared.input.Input.{Input}
use Rattle.px_outcome.specs.declared.input.Standing.TheVariants.{Settled}
use Rattle.px_outcome.specs.declared.input.Way.TheVariants.{Coming, Left}
use Rattle.px_state.specs.State.{State, has_index}
use Rattle.px_state.specs.Out.{waiting_for}

-- the sink that the input is on was handed the message to detach its stream, and the parcel is of the input's sample spec
pub record IsHandedOver {P : Type 0} (spec_of : P → SampleSpec) (state : State P) (sink : SinkId) (x : Input) (parcel : P) : Type 0 where
  pub held : Contains state.inputs x
  pub on : x.sink.0 ≡ sink.0
  pub detached : x.way ≡ Left
  pub spec : spec_of parcel ≡ sample_spec x.spec

-- an input is in the group of the sink that it is on
pub record IsGrouped {P : Type 0} (state : State P) (x : Input) : Type 0 where
  pub group : FlatGroup
  pub owned : slice_get state.groups x.sink.0 ≡ Some group
  pub member : IsSome (member_of group.members x.index)

-- all inputs but the one with an index
abbrev pub others_than : InputId → List Input → List Input
others_than index inputs = filter (λ y. not (has_index index y)) inputs

-- the input, settled on the sink `to`, where its stream is still to come
abbrev pub settled_at : SinkId → Input → Input
settled_at to x = record x { sink = to; standing = Settled; way = Coming }

-- all inputs, of which the one with an index is settled there
abbrev pub with_settled : SinkId → InputId → List Input → List Input
with_settled to index inputs = map (λ y. cond (has_index index y) (settled_at to y) y) inputs

-- after the messages that were queued for the sink `to`, one brings the input's stream there, in this parcel
pub record IsBrought {P : Type 0} (to : SinkId) (index : InputId) (parcel : P) (before after : State P) : Type 0 where
  pub feed : List ℕ
  pub factors : List ℕ
  pub more : List (Msg P)
  pub posted : waiting_for after to ≡ waiting_for before to ++ Attach index parcel feed factors ∷ more
