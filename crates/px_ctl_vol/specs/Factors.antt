-- A sink gets another group of volumes, and the factors that it gives are posted to the sink.
use Rattle.std.specs.Prelude.{ℕ, List, [], ◌∷◌, Bool, is_some}
use Rattle.px_types.specs.declared.ids.SinkId.{SinkId}
use Rattle.px_flat.specs.FlatVolume.{FlatGroup, member_of}
use Rattle.px_msg.specs.declared.message.Msg.{Msg}
use Rattle.px_reply.specs.Front.{reply_to}
use Rattle.px_outcome.specs.declared.input.Input.{Input}
use Rattle.px_outcome.specs.Input.{settled_on}
use Rattle.px_outcome.specs.Outcome.{OutcomeParts, replied}
use Rattle.px_ctl_play.specs.Factors.{regrouped as regrouped_to}

-- the input is in the group
abbrev pub is_member : FlatGroup → Input → Bool
is_member group x = is_some (member_of group.members x.index)

-- sets a sink's group and posts to the sink the factors of the inputs that are settled on it; the client has a reply without fields
abbrev pub regrouped : {P : Type 0} → SinkId → FlatGroup → List Input → ℕ → OutcomeParts (Msg P) FlatGroup
regrouped sink group inputs tag = replied (reply_to tag) (regrouped_to sink group (settled_on inputs sink) ∷ [])
