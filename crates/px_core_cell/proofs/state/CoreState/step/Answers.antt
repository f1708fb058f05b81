use Rattle.px_core_cell.specs.Cell.{cell_of}
use Rattle.px_core_cell.proofs.Keeping.{step_keeps}
use Rattle.px_core_cell.proofs.state.CoreState.step.Goals as goal

pub invariant_of-self : goal.invariant_of-self
invariant_of-self g c =
    step_keeps g.C.Recorder.visible c.self.inside.began.value.state c.args.step (cell_of c.self.inside.parts) (cell_of c.step.new.self) c.step.result c.requires.asked c.self.invariant c.step.ensures.gives

pub returns-clause-history : goal.returns-clause-history
returns-clause-history g c =
    step_keeps g.C.Recorder.visible c.self.inside.began.value.state c.args.step (cell_of c.self.inside.parts) (cell_of c.step.new.self) c.step.result c.requires.asked c.self.invariant c.step.ensures.gives
