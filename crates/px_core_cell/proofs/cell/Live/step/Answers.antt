use Rattle.std.proofs.Common.{◌≡◌, ◌∙◌, Ok, Err, ap, sym, arith}
use Rattle.px_core_cell.specs.Cell.{cell_of}
use Rattle.px_core_cell.proofs.Keeping.{step_keeps, steps_after, counted, counted_one}
use Rattle.px_core_cell.proofs.cell.Live.step.Goals as goal

pub invariant_of-self : goal.invariant_of-self
invariant_of-self g c =
    let was : c.step.result ≡ Err c.in_err-answer.field-0.0 = c.in_err-answer.was in
    let count = steps_after g.C.Recorder.visible g.L.Seats.began c.args.step (cell_of c.self.inside.parts) (cell_of c.step.new.self) c.step.result c.step.ensures.gives in
    let none = ap (counted g.C.Recorder.visible g.L.Seats.began) was in (
      step_keeps g.C.Recorder.visible g.L.Seats.began c.args.step (cell_of c.self.inside.parts) (cell_of c.step.new.self) c.step.result c.requires c.self.invariant.0 c.step.ensures.gives,
      omega (arith, count, none, c.self.invariant.1),
      c.self.invariant.2,
      c.step.ensures.boxes ∙ c.self.invariant.3,
    )

pub invariant_of-self-then-is_some : goal.invariant_of-self-then-is_some
invariant_of-self-then-is_some g c =
    let was : c.step.result ≡ Ok c.in_ok-answer.answer = c.in_ok-answer.was in
    let count = steps_after g.C.Recorder.visible g.L.Seats.began c.args.step (cell_of c.self.inside.parts) (cell_of c.step.new.self) c.step.result c.step.ensures.gives in
    let one = ap (counted g.C.Recorder.visible g.L.Seats.began) was ∙ counted_one g.C.Recorder.visible g.L.Seats.began c.in_ok-answer.answer (sym c.is_some.ensures ∙ c.if-is_some.true) in (
      step_keeps g.C.Recorder.visible g.L.Seats.began c.args.step (cell_of c.self.inside.parts) (cell_of c.step.new.self) c.step.result c.requires c.self.invariant.0 c.step.ensures.gives,
      omega (arith, count, one, c.self.invariant.1, c.add.ensures.total),
      c.self.invariant.2,
      c.step.ensures.boxes ∙ c.self.invariant.3,
    )
