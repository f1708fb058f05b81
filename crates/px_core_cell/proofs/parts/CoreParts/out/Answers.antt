use Rattle.std.proofs.Common.{◌≡◌, ◌<◌, ◌∙◌, List, Some, map, length, sym, subst, arith}
use Rattle.std.specs.Prelude.{slice_get}
use Rattle.std.proofs.lemmas.List.{map-set, length-map}
use Rattle.px_core_cell.specs.Cell.{SinkEnds, ends_of, logged_of, cell_of, calls_of, calls_in}
use Rattle.px_core_cell.proofs.Giving.{placed_at, none_at, boxes_stay, is_there, EffectsGive, out_gives, nowhere_gives}
use Rattle.px_core_cell.proofs.Calls.{out_stops, nowhere_stops}
use Rattle.px_core_cell.proofs.parts.CoreParts.out.Goals as goal

pub out_step-requires-clause-heard : goal.out_step-requires-clause-heard
out_step-requires-clause-heard g c =
    let inside : c.args.sink.0 < length (map ends_of c.args.self.now.ends.items) =
    omega (arith, c.if-place-len.true, c.len.ensures ∙ c.args.self.now.ends.ok.0, length-map c.args.self.now.ends.items ends_of) in
    is_there (cell_of c.args.self.now) c.args.sink (ends_of c.index_mut.result.now) c.requires.sound inside
    (placed_at ends_of c.args.self.now.ends.items c.args.sink.0 c.len.result c.index_mut.result.now (c.len.ensures ∙ c.args.self.now.ends.ok.0) c.if-place-len.true c.index_mut.ensures.value)

pub returns-then-place-len-clause-gives : goal.returns-then-place-len-clause-gives
returns-then-place-len-clause-gives g c =
    let here : slice_get (map ends_of c.args.self.now.ends.items) c.args.sink.0 ≡ Some (ends_of c.index_mut.result.now) =
    placed_at ends_of c.args.self.now.ends.items c.args.sink.0 c.len.result c.index_mut.result.now (c.len.ensures ∙ c.args.self.now.ends.ok.0) c.if-place-len.true c.index_mut.ensures.value in
    subst (λ (l : List SinkEnds). EffectsGive g.C.Recorder.visible c.args.sink (cell_of c.args.self.now) (record { logged = logged_of c.out_step.new.core.state c.out_step.new.log; ends = l }) c.out_step.result)
    (sym (map-set ends_of c.args.self.now.ends.items c.args.sink.0 c.out_step.new.end))
    (out_gives g.C.Recorder.visible c.args.sink (logged_of c.args.self.now.core.state c.args.self.now.log) (logged_of c.out_step.new.core.state c.out_step.new.log) (map ends_of c.args.self.now.ends.items)
    (ends_of c.index_mut.result.now) (ends_of c.out_step.new.end) c.out_step.result here c.out_step.ensures.gives)

pub returns-else-place-len-clause-gives : goal.returns-else-place-len-clause-gives
returns-else-place-len-clause-gives g c =
    nowhere_gives g.C.Recorder.visible c.args.sink c.args.self.now.core.state c.args.self.now.log c.nowhere_step.new.log (map ends_of c.args.self.now.ends.items) c.nowhere_step.result
    (none_at ends_of c.args.self.now.ends.items c.args.sink.0 c.len.result (c.len.ensures ∙ c.args.self.now.ends.ok.0) c.if-place-len.false) c.nowhere_step.ensures.gives

pub returns-then-place-len-clause-stops : goal.returns-then-place-len-clause-stops
returns-then-place-len-clause-stops g c =
    out_stops c.args.sink c.out_step.new.core.state c.args.self.now.ends.items c.index_mut.result.now c.out_step.new.end c.out_step.result
    (placed_at calls_of c.args.self.now.ends.items c.args.sink.0 c.len.result c.index_mut.result.now (c.len.ensures ∙ c.args.self.now.ends.ok.0) c.if-place-len.true c.index_mut.ensures.value)
    c.out_step.ensures.stops

pub returns-else-place-len-clause-stops : goal.returns-else-place-len-clause-stops
returns-else-place-len-clause-stops g c =
    nowhere_stops c.args.sink c.args.self.now.core.state (calls_in c.args.self.now) c.nowhere_step.result
    (none_at calls_of c.args.self.now.ends.items c.args.sink.0 c.len.result (c.len.ensures ∙ c.args.self.now.ends.ok.0) c.if-place-len.false)

pub returns-then-place-len-clause-boxes : goal.returns-then-place-len-clause-boxes
returns-then-place-len-clause-boxes g c =
    boxes_stay c.args.self.now.ends.items c.args.sink.0 c.len.result c.index_mut.result.now c.out_step.new.end (c.len.ensures ∙ c.args.self.now.ends.ok.0) c.if-place-len.true c.index_mut.ensures.value
    c.out_step.ensures.boxes
