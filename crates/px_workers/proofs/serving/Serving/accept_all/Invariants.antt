use Rattle.std.proofs.Common.{◌≡◌, ◌-◌, length}
use Rattle.px_workers.specs.Accepting.{Takes}
use Rattle.px_workers.specs.Hosted.{IsCalm}
use Rattle.px_workers.proofs.serving.Serving.accept_all.Given as goal

abbrev pub invariant-loop-stop : goal.invariant-loop-stop
invariant-loop-stop g l = record {
  takes : Takes
      (record { parts = g.W.Handle.parts l.fn.self.handle; clients = length l.fn.self.clients.items; sinks = l.fn.self.sinks; host = g.H.Host.now l.fn.host })
      (record { parts = g.W.Handle.parts l.self.handle; clients = length l.self.clients.items; sinks = l.self.sinks; host = g.H.Host.now l.host });
  calm : IsCalm (g.H.Host.now l.fn.host) (g.H.Host.now l.host);
  dialled : g.H.Host.dialled l.host ≡ g.H.Host.dialled l.fn.host;
}

-- how many links are left
abbrev pub decreases-loop-stop : goal.decreases-loop-stop
decreases-loop-stop g l = 65535 - (g.H.Host.now l.host).links
