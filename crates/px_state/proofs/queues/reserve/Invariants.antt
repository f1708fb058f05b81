use Rattle.std.proofs.Common.{ℕ, ◌≡◌, ◌<◌}
use Rattle.px_state.specs.Tables.{lists_of, HasPlacesAt}
use Rattle.px_state.proofs.queues.reserve.Given as goal

abbrev pub invariant-loop-place : goal.invariant-loop-place
invariant-loop-place g l = record {
  lists : lists_of l.queues ≡ lists_of l.fn.queues;
  room : (k : ℕ) → k < l.place → HasPlacesAt l.fn.more k l.queues;
}
