use Rattle.std.proofs.Common.{◌<◌, ◌^◌, ℕ, w32, FitsSigned}
use Rattle.px_kernel.specs.Kernel.{at}
use Rattle.px_mixcache.proofs.stereo.are_small.Given as goal

abbrev pub invariant-loop-k : goal.invariant-loop-k
invariant-loop-k l = l.all < 2 ^ 32 → (k : ℕ) → k < l.k → FitsSigned w32 (at l.left k) × FitsSigned w32 (at l.right k)
