use Rattle.std.proofs.Common.{◌≤◌}
use Rattle.px_kernel.specs.Kernel.{Changes}
use Rattle.px_kernel.proofs.change.change_rest.Given as goal

abbrev pub invariant-loop-k : goal.invariant-loop-k
invariant-loop-k l = (l.from ≤ l.k) × Changes l.add l.fn.sums l.values l.factor l.from l.k l.sums
