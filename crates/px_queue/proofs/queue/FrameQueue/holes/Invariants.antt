use Rattle.std.proofs.Common.{◌≡◌, ℕ, ◌+◌, ◌-◌, ◌<◌, ◌≤◌, None}
use Rattle.px_model.specs.Held.{place}
use Rattle.px_queue.proofs.queue.FrameQueue.holes.Given as goal

abbrev pub invariant-loop-count : goal.invariant-loop-count
invariant-loop-count l = (l.count ≤ l.most) × ((j : ℕ) → j < l.count → place l.self.queue.held (l.k + j) ≡ None)

abbrev pub decreases-loop-count : goal.decreases-loop-count
decreases-loop-count l = l.most - l.count
