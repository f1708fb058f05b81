use Rattle.std.proofs.Common.{ℕ, ◌≤◌, ◌<◌, ◌-◌, ◌+◌}
use Rattle.std.specs.Prelude.{IsSome}
use Rattle.px_queue.specs.Pieces.{byte_at}
use Rattle.px_queue.proofs.chunks.Chunks.run.Given as goal

abbrev pub invariant-loop-count : goal.invariant-loop-count
invariant-loop-count l = record {
  few : l.count ≤ l.most;
  held : (j : ℕ) → j < l.count → IsSome (byte_at l.self.before (l.from + j));
}

abbrev pub decreases-loop-count : goal.decreases-loop-count
decreases-loop-count l = l.most - l.count
