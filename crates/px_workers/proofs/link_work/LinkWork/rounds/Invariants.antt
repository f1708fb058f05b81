use Rattle.std.proofs.Common.{◌≡◌, ◌<◌, length}
use Rattle.px_workers.proofs.link_work.LinkWork.rounds.Given as goal

abbrev pub invariant-loop : goal.invariant-loop
invariant-loop g l = (g.W.Handle.parts l.self.worker.handle ≡ g.W.Handle.parts l.fn.self.worker.handle) × (0 < length l.piece)
