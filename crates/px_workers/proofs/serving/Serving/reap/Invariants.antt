use Rattle.std.proofs.Common.{◌≡◌, ◌+◌, ◌≤◌, length}
use Rattle.px_workers.proofs.serving.Serving.reap.Given as goal

abbrev pub invariant-loop : goal.invariant-loop
invariant-loop g l =
    (g.W.Handle.parts l.self.handle + length l.self.clients.items ≡ g.W.Handle.parts l.fn.self.handle + length l.fn.self.clients.items)
    × (length l.self.clients.items ≤ length l.fn.self.clients.items)
    × (l.self.sinks ≡ l.fn.self.sinks)
