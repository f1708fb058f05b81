use Rattle.std.proofs.Common.{◌+◌, ◌-◌, ◌≤◌, length}
use Rattle.px_kernel.specs.Clip.{Clips}
use Rattle.px_kernel.proofs.clip.clip.Given as goal

abbrev pub invariant-loop-from : goal.invariant-loop-from
invariant-loop-from l = (l.from ≤ length l.sums) × Clips l.most l.sums l.from l.out

abbrev pub decreases-loop-from : goal.decreases-loop-from
decreases-loop-from l = length l.initial.sums + 1 - l.from
