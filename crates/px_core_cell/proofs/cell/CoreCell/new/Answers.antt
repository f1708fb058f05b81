use Rattle.std.proofs.Common.{◌∙◌, map, ap, sym, subst}
use Rattle.px_annals.specs.declared.stream.PlainStream.{PlainStream}
use Rattle.px_state.specs.State.{State}
use Rattle.px_core_cell.specs.Boxes.{boxes_of}
use Rattle.px_core_cell.specs.Cell.{Cell, ends_of}
use Rattle.px_core_cell.specs.History.{IsCell, first_cell}
use Rattle.px_core_cell.proofs.Keeping.{begins}
use Rattle.px_core_cell.proofs.cell.CoreCell.new.Goals as goal

pub invariant_of-new : goal.invariant_of-new
invariant_of-new g c = (
  subst (λ (cell : Cell _). IsCell g.C.Recorder.visible g.L.Seats.began cell) (sym c.new-parts.ensures.cell)
      (subst (λ (s : State PlainStream). IsCell g.C.Recorder.visible s (first_cell c.args.core.state c.args.recorder (map ends_of c.args.ends.items))) c.requires.began
      (begins g.C.Recorder.visible c.args.core.state c.args.recorder (map ends_of c.args.ends.items) c.requires.begins c.requires.none)),
  c.open-book.ensures.total ∙ sym (ap (λ (cell : Cell _). cell.logged.steps) c.new-parts.ensures.cell),
  c.requires.parts.1,
  ap (λ (ends : _). map boxes_of ends.items) c.new-parts.ensures.ends ∙ c.requires.boxes,
)
