use Rattle.std.proofs.Common.{◌≡◌, ◌+◌, ◌-◌, ◌*◌, ◌≤◌, ◌++◌, length}
use Rattle.std.specs.List.{sum_by}
use Rattle.px_model.specs.Frame.{SampleSpec}
use Rattle.px_model.specs.Turn.{inputs_with_all, all_message_notices}
use Rattle.px_lane.specs.Needed.{blocks_of}
use Rattle.px_lane.specs.Mixed.{CanMixAll}
use Rattle.px_lane.specs.Taking.{CanTakeAll}
use Rattle.px_lane.specs.Unaltered.{MixesSame, MixesSameFrom}
use Rattle.px_lane.specs.Costs.{costs_of}
use Rattle.px_lane.proofs.mixed.MixedInputs.take_all.Given as goal

abbrev pub invariant-loop-message : goal.invariant-loop-message
invariant-loop-message g l =
    (inputs_with_all l.fn.self.frames l.messages.messages l.self.inputs ≡ inputs_with_all l.fn.self.frames l.fn.messages.messages l.fn.self.inputs)
    × (l.out.notices ++ all_message_notices l.fn.self.frames l.buffered l.messages.messages l.self.inputs ≡ l.fn.out.notices ++ all_message_notices l.fn.self.frames l.buffered l.fn.messages.messages l.fn.self.inputs)
    × CanTakeAll l.fn.self.frames l.messages.messages l.self.inputs
    × (length l.messages.messages ≤ l.self.room)
    × (l.self.room ≤ l.messages.room)
    × (l.out.capacity ≡ l.fn.out.capacity)
    × (l.messages.capacity ≡ l.fn.messages.capacity)
    × (sum_by blocks_of l.messages.messages ≤ l.self.block_room)
    × (l.self.block_room ≤ l.messages.block_room)
    × ((sink : SampleSpec) → MixesSame sink l.altered.from l.fn.self.inputs l.self.inputs)
    × (l.self.spec ≡ l.fn.self.spec)
    × (l.self.depth ≡ l.fn.self.depth)
    × (l.self.frames ≡ l.fn.self.frames)
    × CanMixAll l.fn.self.spec.channels l.fn.self.frames l.messages.messages l.self.inputs
    × (l.steps + l.fn.self.spec.channels * (l.fn.self.frames - l.altered.from) + l.fn.self.spec.channels * costs_of l.fn.self.frames l.messages.messages l.self.inputs
    ≤ l.fn.steps + l.fn.self.spec.channels * costs_of l.fn.self.frames l.fn.messages.messages l.fn.self.inputs)
    × ((sink : SampleSpec) → MixesSameFrom sink l.altered.to l.fn.self.frames l.fn.self.inputs l.self.inputs)

abbrev pub decreases-loop-message : goal.decreases-loop-message
decreases-loop-message g l = length l.messages.messages
