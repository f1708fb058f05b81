use Rattle.std.proofs.Common.{◌≡◌, take, map}
use Rattle.px_msg.specs.View.{gains}
use Rattle.px_lane_cell.specs.Meaning.{factors_meant}
use Rattle.px_lane_cell.proofs.plain.plain_factors.Given as goal

abbrev pub invariant-loop-one : goal.invariant-loop-one
invariant-loop-one l = map factors_meant l.each.items ≡ map gains (take l.one-index l.list)
