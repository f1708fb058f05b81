use Rattle.std.proofs.Common.{map, ap, sym, subst}
use Rattle.px_annals.specs.declared.stream.PlainStream.{PlainStream}
use Rattle.px_state.specs.Out.{Roomy}
use Rattle.px_state.specs.State.{State}
use Rattle.px_core_cell.specs.Cell.{Cell, ends_of, cell_of}
use Rattle.px_core_cell.specs.History.{IsCell}
use Rattle.px_core_cell.proofs.Keeping.{begins}
use Rattle.px_core_cell.proofs.state.CoreState.new.Goals as goal

pub invariant_of-result : goal.invariant_of-result
invariant_of-result g c =
    subst (λ (s : State PlainStream). IsCell g.C.Recorder.visible s (cell_of c.new.result)) (sym (ap (λ (r : Roomy PlainStream). r.state) c.of.ensures))
    (subst (λ (cell : Cell _). IsCell g.C.Recorder.visible c.args.core.state cell) (sym c.new.ensures.cell)
    (begins g.C.Recorder.visible c.args.core.state c.args.recorder (map ends_of c.args.ends.items) c.requires.begins c.requires.none))
