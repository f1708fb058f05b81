use Rattle.std.proofs.Common.{◌≡◌, ◌+◌, length}
use Rattle.px_workers.proofs.serving.Serving.join_clients.Given as goal

abbrev pub invariant-loop-client : goal.invariant-loop-client
invariant-loop-client g l =
    (g.W.Handle.parts l.self.handle + length l.self.clients.items ≡ g.W.Handle.parts l.fn.self.handle + length l.fn.self.clients.items)
    × (l.self.sinks ≡ l.fn.self.sinks)

-- how many are left
abbrev pub decreases-loop-client : goal.decreases-loop-client
decreases-loop-client g l = length l.self.clients.items
