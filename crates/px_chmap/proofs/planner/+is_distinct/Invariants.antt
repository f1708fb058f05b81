use Rattle.std.proofs.Common.{length}
use Rattle.px_chmap.proofs.planner.+is_distinct.Given as goal

abbrev pub decreases-is_distinct : goal.decreases-is_distinct
decreases-is_distinct l = length l.positions.now
