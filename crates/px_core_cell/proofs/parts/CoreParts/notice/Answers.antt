use Rattle.std.proofs.Common.{◌<◌, List, map, length, sym, subst, ◌∙◌, refl, arith}
use Rattle.std.proofs.lemmas.List.{map-set, length-map}
use Rattle.px_core_cell.specs.declared.step.CoreStep.TheVariants as asked
use Rattle.px_core_cell.specs.Cell.{SinkEnds, ends_of, logged_of, cell_of, calls_of}
use Rattle.px_core_cell.specs.Step.{FreeGives}
use Rattle.px_core_cell.proofs.Giving.{placed_at, none_at, boxes_stay, is_sink, notice_gives}
use Rattle.px_core_cell.proofs.Calls.{notice_stops}
use Rattle.px_core_cell.proofs.parts.CoreParts.notice.Goals as goal

pub notice_step-requires-clause-exists : goal.notice_step-requires-clause-exists
notice_step-requires-clause-exists g c =
    let inside : c.args.sink.0 < length (map ends_of c.args.self.now.ends.items) =
    omega (arith, c.if-place-len.true, c.len.ensures ∙ c.args.self.now.ends.ok.0, length-map c.args.self.now.ends.items ends_of) in
    is_sink (cell_of c.args.self.now) c.args.sink c.requires.sound inside

pub returns-then-place-len-clause-gives : goal.returns-then-place-len-clause-gives
returns-then-place-len-clause-gives g c =
    subst (λ (l : List SinkEnds). FreeGives g.C.Recorder.visible (asked.Notice c.args.sink) (cell_of c.args.self.now) (record { logged = logged_of c.notice_step.new.core.state c.notice_step.new.log; ends = l }) c.notice_step.result)
    (sym (map-set ends_of c.args.self.now.ends.items c.args.sink.0 c.notice_step.new.end))
    (notice_gives g.C.Recorder.visible c.args.sink (logged_of c.args.self.now.core.state c.args.self.now.log) (logged_of c.notice_step.new.core.state c.notice_step.new.log) (map ends_of c.args.self.now.ends.items)
    (ends_of c.index_mut.result.now) (ends_of c.notice_step.new.end) c.notice_step.result
    (placed_at ends_of c.args.self.now.ends.items c.args.sink.0 c.len.result c.index_mut.result.now (c.len.ensures ∙ c.args.self.now.ends.ok.0) c.if-place-len.true c.index_mut.ensures.value)
    c.notice_step.ensures.gives)

pub returns-else-place-len-clause-gives : goal.returns-else-place-len-clause-gives
returns-else-place-len-clause-gives g c = ((λ e is. absurd (none_at ends_of c.args.self.now.ends.items c.args.sink.0 c.len.result (c.len.ensures ∙ c.args.self.now.ends.ok.0) c.if-place-len.false e is)), refl)

pub returns-then-place-len-clause-stops : goal.returns-then-place-len-clause-stops
returns-then-place-len-clause-stops g c =
    notice_stops c.args.sink c.notice_step.new.core.state c.args.self.now.ends.items c.index_mut.result.now c.notice_step.new.end c.notice_step.result
    (placed_at calls_of c.args.self.now.ends.items c.args.sink.0 c.len.result c.index_mut.result.now (c.len.ensures ∙ c.args.self.now.ends.ok.0) c.if-place-len.true c.index_mut.ensures.value)
    c.notice_step.ensures.stops

pub returns-else-place-len-clause-stops : goal.returns-else-place-len-clause-stops
returns-else-place-len-clause-stops g c = λ b d was is. absurd (none_at calls_of c.args.self.now.ends.items c.args.sink.0 c.len.result (c.len.ensures ∙ c.args.self.now.ends.ok.0) c.if-place-len.false b was)

pub returns-then-place-len-clause-boxes : goal.returns-then-place-len-clause-boxes
returns-then-place-len-clause-boxes g c =
    boxes_stay c.args.self.now.ends.items c.args.sink.0 c.len.result c.index_mut.result.now c.notice_step.new.end (c.len.ensures ∙ c.args.self.now.ends.ok.0) c.if-place-len.true c.index_mut.ensures.value
    c.notice_step.ensures.boxes
