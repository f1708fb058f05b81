use Rattle.std.proofs.Common.{◌≡◌, length}
use Rattle.std.specs.VecDeque.{deque_capacity}
use Rattle.px_workers.specs.Accepting.{Starts}
use Rattle.px_workers.specs.Hosted.{IsCalm}
use Rattle.px_workers.proofs.serving.Serving.start_sinks.Given as goal

abbrev pub invariant-loop-self : goal.invariant-loop-self
invariant-loop-self g l = record {
  starts : Starts
      (record { parts = g.W.Handle.parts l.fn.self.handle; clients = l.fn.self.clients; sinks = l.fn.self.sinks.items; idle = l.fn.idle.items; capacity = deque_capacity l.fn.idle; host = g.H.Host.now l.fn.host })
      (record { parts = g.W.Handle.parts l.self.handle; clients = l.self.clients; sinks = l.self.sinks.items; idle = l.idle.items; capacity = deque_capacity l.idle; host = g.H.Host.now l.host });
  calm : IsCalm (g.H.Host.now l.fn.host) (g.H.Host.now l.host);
  dialled : g.H.Host.dialled l.host ≡ g.H.Host.dialled l.fn.host;
}

-- how many are left
abbrev pub decreases-loop-self : goal.decreases-loop-self
decreases-loop-self g l = length l.idle.items
