use Rattle.std.proofs.Common.{◌≡◌, [], replicate}
use Rattle.px_state.specs.Tables.{lists_of}
use Rattle.px_state.proofs.start.queues_for.Given as goal

abbrev pub invariant-loop-sink : goal.invariant-loop-sink
invariant-loop-sink g l = lists_of l.made.items ≡ replicate l._sink-index []
