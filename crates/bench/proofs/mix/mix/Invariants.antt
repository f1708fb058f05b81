use Rattle.std.proofs.Common.{◌≡◌, ◌<◌, ℕ, length, pos, w32, FitsSigned}
use Rattle.px_kernel.specs.Kernel.{at}
use Rattle.bench.proofs.mix.mix.Given as goal

abbrev pub invariant-loop-number : goal.invariant-loop-number
invariant-loop-number g l =
    ((k : ℕ) → k < length l.sums → at l.sums k ≡ pos 0) × (length l.out ≡ length l.sums) × ((k : ℕ) → k < length l.sums → FitsSigned w32 (at l.values k))
