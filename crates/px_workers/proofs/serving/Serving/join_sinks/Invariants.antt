use Rattle.std.proofs.Common.{◌≡◌, ◌+◌, ◌≤◌, ◌++◌, length, map}
use Rattle.std.specs.VecDeque.{deque_capacity}
use Rattle.px_workers.specs.Working.{lasting_of}
use Rattle.px_workers.proofs.serving.Serving.join_sinks.Given as goal

abbrev pub invariant-loop-run : goal.invariant-loop-run
invariant-loop-run g l = record {
  parts : g.W.Handle.parts l.self.handle + length l.self.sinks.items ≡ g.W.Handle.parts l.fn.self.handle + length l.fn.self.sinks.items;
  room : length l.self.sinks.items + length l.idle.items ≤ deque_capacity l.idle;
  lasting : map lasting_of (l.self.sinks.items ++ l.idle.items) ≡ map lasting_of (l.fn.self.sinks.items ++ l.fn.idle.items);
}

-- how many are left
abbrev pub decreases-loop-run : goal.decreases-loop-run
decreases-loop-run g l = length l.self.sinks.items
