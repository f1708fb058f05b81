use Rattle.std.proofs.Common.{◌≡◌, ℕ, ◌<◌, get_or}
use Rattle.px_chmap.specs.Plan.{channel_at}
use Rattle.px_chmap.proofs.planner.fed_by_position.Given as goal

abbrev pub invariant-loop-index : goal.invariant-loop-index
invariant-loop-index l = (k : ℕ) → k < l.index → get_or l.channels k 0 ≡ channel_at l.from (get_or l.to k 0)
