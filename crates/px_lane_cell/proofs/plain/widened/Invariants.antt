use Rattle.std.proofs.Common.{◌≡◌, take}
use Rattle.px_lane_cell.proofs.plain.widened.Given as goal

abbrev pub invariant-loop-channel : goal.invariant-loop-channel
invariant-loop-channel l = l.numbers.items ≡ take l.channel-index l.channels
