use Rattle.std.proofs.Common.{◌≡◌, take}
use Rattle.px_lane_cell.specs.Meaning.{messages_meant}
use Rattle.px_lane_cell.proofs.plain.plain_messages.Given as goal

abbrev pub invariant-loop-at : goal.invariant-loop-at
invariant-loop-at l = messages_meant l.plain.items ≡ take l.at l.messages.messages
