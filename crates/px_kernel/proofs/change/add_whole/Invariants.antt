use Rattle.std.proofs.Common.{◌+◌, ◌-◌, ◌≤◌, length, true}
use Rattle.px_kernel.specs.Kernel.{Changes}
use Rattle.px_kernel.proofs.change.add_whole.Given as goal

abbrev pub invariant-loop-from : goal.invariant-loop-from
invariant-loop-from l = (l.from ≤ length l.fn.sums) × Changes true l.fn.sums l.values 65536 0 l.from l.sums

abbrev pub decreases-loop-from : goal.decreases-loop-from
decreases-loop-from l = length l.initial.sums + 1 - l.from
