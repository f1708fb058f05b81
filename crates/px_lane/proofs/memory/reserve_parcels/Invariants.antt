use Rattle.std.proofs.Common.{◌≡◌, take}
use Rattle.std.specs.List.{AllByRecursion}
use Rattle.px_lane.specs.Lists.{messages_of}
use Rattle.px_lane.specs.Taking.{BringsRoom}
use Rattle.px_lane.proofs.memory.reserve_parcels.Given as goal

abbrev pub invariant-loop-message : goal.invariant-loop-message
invariant-loop-message l =
    (messages_of l.messages ≡ messages_of l.fn.messages) × AllByRecursion (BringsRoom l.room l.blocks) (take l.message-index l.messages)
