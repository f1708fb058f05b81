use Rattle.std.proofs.Common.{◌≡◌, drop, map}
use Rattle.px_msg.specs.View.{gains}
use Rattle.px_ramp.specs.Ramp.{with_aims}
use Rattle.px_ramp.proofs.table.aim_all.Given as goal

abbrev pub invariant-loop-entry : goal.invariant-loop-entry
invariant-loop-entry l = with_aims l.frames l.at (map gains (drop l.entry-index l.each)) l.items ≡ with_aims l.frames l.at (map gains l.each) l.fn.items
