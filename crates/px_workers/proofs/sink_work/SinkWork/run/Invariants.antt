use Rattle.std.proofs.Common.{◌≡◌}
use Rattle.px_workers.specs.Working.{GoesOn}
use Rattle.px_workers.proofs.sink_work.SinkWork.run.Given as goal

abbrev pub invariant-loop : goal.invariant-loop
invariant-loop g l = record {
  parts : g.W.Handle.parts l.self.worker.handle ≡ g.W.Handle.parts l.fn.self.worker.handle;
  goes : GoesOn l.fn.self.state l.self.state;
}
