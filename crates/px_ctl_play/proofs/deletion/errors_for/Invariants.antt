use Rattle.std.proofs.Common.{◌≡◌, ◌++◌}
use Rattle.std.specs.VecDeque.Iter.{deque_iter_rest}
use Rattle.px_ctl_play.specs.Delete.{errors_for}
use Rattle.px_ctl_play.proofs.deletion.errors_for.Given as goal

abbrev pub invariant-loop-request : goal.invariant-loop-request
invariant-loop-request l =
    l.errors.items ++ errors_for l.x (deque_iter_rest l.request-iterator) ≡ errors_for l.x l.waiting.items
