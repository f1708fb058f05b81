use Rattle.std.proofs.Common.{◌≡◌, drop}
use Rattle.px_ramp.specs.Ramp.{ramps_at}
use Rattle.px_ramp.proofs.table.found.Given as goal

abbrev pub invariant-loop-item : goal.invariant-loop-item
invariant-loop-item l = ramps_at l.input (drop l.item-index l.items) ≡ ramps_at l.input l.items
