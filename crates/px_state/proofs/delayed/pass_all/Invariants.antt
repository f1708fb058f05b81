use Rattle.std.proofs.Common.{◌≡◌, ◌+◌, ℕ}
use Rattle.std.specs.VecDeque.{deque_capacity}
use Rattle.px_state.specs.Tables.{lists_of, HavePlaces}
use Rattle.px_state.proofs.Releases.{Passing}
use Rattle.px_state.proofs.delayed.pass_all.Given as goal

abbrev pub invariant-loop-seen : goal.invariant-loop-seen
invariant-loop-seen g l = record {
  pass : Passing l.fn.input l.fn.sink l.fn.count l.fn.held.items (lists_of l.fn.posted) l.held.items (lists_of l.posted) l.left l._seen;
  room : (n : ℕ) → HavePlaces (n + l.fn.count) l.fn.posted → HavePlaces (n + l.left) l.posted;
  capacity : deque_capacity l.held ≡ deque_capacity l.fn.held;
}
