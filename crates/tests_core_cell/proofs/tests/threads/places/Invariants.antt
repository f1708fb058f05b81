use Rattle.std.proofs.Common.{◌<◌, ◌+◌}
use Rattle.tests_core_cell.proofs.tests.threads.places.Given as goal

-- a part is left for each place that is still to be made, and one more
abbrev pub invariant-loop-number : goal.invariant-loop-number
invariant-loop-number g l = 8 < l.seat.parts + l.number
