use Rattle.std.proofs.Common.{◌≡◌}
use Rattle.px_core_cell.proofs.cell.Live.post_all.Given as goal

abbrev pub invariant-loop-sink : goal.invariant-loop-sink
invariant-loop-sink g l = l.seat.parts ≡ l.fn.seat.parts
