use Rattle.std.proofs.Common.{subst}
use Rattle.px_workers.specs.Working.{AreTaped}
use Rattle.px_workers.proofs.sink_state.SinkState.turn.Goals as goal

pub invariant_of-self : goal.invariant_of-self
invariant_of-self g c = (
  c.turn_taped.ensures.honest c.self.invariant.0,
  c.turn_taped.ensures.taped c.self.inside.sink (subst (AreTaped g.E.Recorder.visible c.self.inside.sink c.self.inside.cell.recorder) c.in-Some.is c.self.invariant.1),
)
