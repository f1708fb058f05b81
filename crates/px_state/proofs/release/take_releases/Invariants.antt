use Rattle.std.proofs.Common.{◌≡◌, ◌+◌, ◌++◌}
use Rattle.std.specs.Prelude.{replicate}
use Rattle.std.specs.VecDeque.{deque_len}
use Rattle.px_outcome.specs.declared.change.Change.TheVariants.{Released}
use Rattle.px_state.proofs.release.take_releases.Given as goal

abbrev pub invariant-loop-index : goal.invariant-loop-index
invariant-loop-index g l = record {
  items : l.fn.changes.items ≡ replicate l.count (Released l.fn.index) ++ l.changes.items;
  len : l.count + deque_len l.changes ≡ deque_len l.fn.changes;
}

abbrev pub decreases-loop-index : goal.decreases-loop-index
decreases-loop-index g l = deque_len l.changes
