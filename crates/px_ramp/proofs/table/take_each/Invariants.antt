use Rattle.std.proofs.Common.{◌≡◌, ◌+◌, ◌≤◌, drop}
use Rattle.px_ramp.specs.Ramp.{ramps_with_all}
use Rattle.px_ramp.proofs.table.take_each.Given as goal

abbrev pub invariant-loop-i : goal.invariant-loop-i
invariant-loop-i l = record {
  ramps : ramps_with_all l.frames l.at (drop l.i l.messages.messages) l.table.ramps ≡ ramps_with_all l.frames l.at l.messages.messages l.fn.table.ramps;
  room : l.fn.table.room ≤ l.table.room + l.i;
}
