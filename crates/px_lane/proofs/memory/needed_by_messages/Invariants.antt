use Rattle.std.proofs.Common.{◌≡◌, take}
use Rattle.std.specs.List.{sum_by}
use Rattle.px_lane.specs.Lists.{messages_of}
use Rattle.px_lane.specs.Needed.{needed_by}
use Rattle.px_lane.proofs.memory.needed_by_messages.Given as goal

abbrev pub invariant-loop-message : goal.invariant-loop-message
invariant-loop-message l = l.notices ≡ sum_by needed_by (messages_of (take l.message-index l.messages))
