-- The group of each sink: every input on the sink is a member of it, until the sink has detached its stream, and no other is.
use Rattle.std.specs.Prelude.{◌≡◌, ℕ, Bool, false, not, nat_eq, List, map, filter, length, slice_get, Some}
use Rattle.std.specs.List.{list_any}
use Rattle.px_types.specs.declared.ids.InputId.{InputId}
use Rattle.px_types.specs.declared.ids.SinkId.{SinkId}
use Rattle.px_header.specs.declared.header.SinkSpec.{SinkSpec}
use Rattle.px_flat.specs.Inputs.{channels_in}
use Rattle.px_flat.specs.FlatVolume.{FlatGroup}
use Rattle.px_outcome.specs.declared.input.Input.{Input}
use Rattle.px_core.specs.Notice.{is_on}

-- the number of channels of each input with an index that is on a sink
abbrev pub channels_there : List Input → SinkId → InputId → List ℕ
channels_there inputs sink index = map (λ x. (Input.spec x).channels) (filter (is_on sink index) inputs)

-- a group is that of a sink with these inputs
pub record IsGroupOf (sink : SinkId) (s : SinkSpec) (inputs : List Input) (group : FlatGroup) : Type 0 where
  pub channels : length group.reference ≡ s.spec.channels
  pub members : (index : InputId) → channels_in group.members index ≡ channels_there inputs sink index

-- ---- the sinks whose groups don't match their inputs yet, while the changes of one step are made

abbrev pub is_owed : ℕ → List SinkId → Bool
is_owed index owed = list_any (λ (sink : SinkId). nat_eq sink.0 index) owed

-- the group of a sink matches again
abbrev pub paid : SinkId → List SinkId → List SinkId
paid sink owed = filter (λ (other : SinkId). not (nat_eq other.0 sink.0)) owed

-- ---- all groups

-- one a sink, each matching its inputs but for sinks in `owed`
pub record AreGrouped (owed : List SinkId) (sinks : List SinkSpec) (inputs : List Input) (groups : List FlatGroup) : Type 0 where
  pub count : length groups ≡ length sinks
  pub each : (index : ℕ) (s : SinkSpec) (group : FlatGroup) → slice_get sinks index ≡ Some s → slice_get groups index ≡ Some group → is_owed index owed ≡ false
      → IsGroupOf (record { 0 = index }) s inputs group
