use Rattle.std.proofs.Common.{◌≡◌, ℕ, ◌≤◌, ◌<◌, ◌-◌, ◌+◌, length}
use Rattle.std.specs.Prelude.{slice_get}
use Rattle.px_queue.specs.Pieces.{byte_at}
use Rattle.px_queue.proofs.chunks.Chunks.copy_from.Given as goal

abbrev pub invariant-loop-count : goal.invariant-loop-count
invariant-loop-count l = record {
  few : l.count ≤ length l.out;
  size : length l.out ≡ length l.fn.out;
  done : (j : ℕ) → j < l.count → byte_at l.self.before (l.from + j) ≡ slice_get l.out j;
}

abbrev pub decreases-loop-count : goal.decreases-loop-count
decreases-loop-count l = length l.fn.out - l.count
