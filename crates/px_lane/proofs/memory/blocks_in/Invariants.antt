use Rattle.std.proofs.Common.{◌≡◌, take}
use Rattle.std.specs.List.{sum_by}
use Rattle.px_lane.specs.Lists.{messages_of}
use Rattle.px_lane.specs.Needed.{blocks_of}
use Rattle.px_lane.proofs.memory.blocks_in.Given as goal

abbrev pub invariant-loop-message : goal.invariant-loop-message
invariant-loop-message l = l.blocks ≡ sum_by blocks_of (messages_of (take l.message-index l.messages))
