use Rattle.std.proofs.Common.{◌+◌, Option, ap, sym, ◌∙◌, subst, arith}
use Rattle.std.specs.Prelude.{slice_index_or}
use Rattle.px_model.specs.Stream.{Stream}
use Rattle.px_model.specs.Sink.{Input as Stands}
use Rattle.px_model.specs.Applied.{applied, overflows}
use Rattle.px_stream.specs.Messages.{message_of, room_for, blocks_with}
use Rattle.px_lane.specs.Taking.{SuitsAt, is_overflow, overflows_at}
use Rattle.px_lane.proofs.Places.{at_stream, at_change, gap_stream, gap_change, all_less, all_at, all_with, overflow_is}
use Rattle.px_lane.proofs.finding.change_at.Goals as goal

pub apply-requires-clause-room : goal.apply-requires-clause-room
apply-requires-clause-room g c =
    (all_at (room_for (message_of c.args.change)) (blocks_with (message_of c.args.change)) c.in-Ok.place c.args.inputs.now c.index-inputs-place.result c.in-Ok.ensures.few c.requires.room).0

pub apply-requires-clause-block_room : goal.apply-requires-clause-block_room
apply-requires-clause-block_room g c =
    (all_at (room_for (message_of c.args.change)) (blocks_with (message_of c.args.change)) c.in-Ok.place c.args.inputs.now c.index-inputs-place.result c.in-Ok.ensures.few c.requires.room).1

pub apply-requires-clause-suits : goal.apply-requires-clause-suits
apply-requires-clause-suits g c =
    subst (λ (o : Option Stream). SuitsAt o (message_of c.args.change))
    (at_stream c.args.index.0 c.in-Ok.place c.args.inputs.now c.index-inputs-place.result c.in-Ok.ensures.ok)
    c.requires.suits

pub returns-in-Err-clause-inputs : goal.returns-in-Err-clause-inputs
returns-in-Err-clause-inputs g c = gap_change c.args.index.0 (applied c.args.mixed (message_of c.args.change)) c.in-Err.field-0 c.args.inputs.now c.in-Err.ensures.err

pub returns-in-Err-clause-overflows : goal.returns-in-Err-clause-overflows
returns-in-Err-clause-overflows g c =
    sym (ap (λ (o : Option Stream). overflows_at c.args.mixed (message_of c.args.change) o) (gap_stream c.args.index.0 c.in-Err.field-0 c.args.inputs.now c.in-Err.ensures.err))

pub returns-in-Err-clause-room : goal.returns-in-Err-clause-room
returns-in-Err-clause-room g c = λ r b h. all_less (r + room_for (message_of c.args.change)) r (b + blocks_with (message_of c.args.change)) b c.args.inputs.now (omega arith) (omega arith) h

pub returns-in-Ok-clause-inputs : goal.returns-in-Ok-clause-inputs
returns-in-Ok-clause-inputs g c =
    let x = slice_index_or c.args.inputs.now c.in-Ok.place c.index-inputs-place.result in
    at_change c.args.index.0 (applied c.args.mixed (message_of c.args.change)) c.in-Ok.place c.args.inputs.now c.index-inputs-place.result _ c.in-Ok.ensures.ok
    (ap (λ (s : Stream). let v : Stands = record { index = x.index.0; stream = s } in v) c.apply.ensures.stream)

pub returns-in-Ok-clause-overflows : goal.returns-in-Ok-clause-overflows
returns-in-Ok-clause-overflows g c =
    let s = slice_index_or c.args.inputs.now c.in-Ok.place c.index-inputs-place.result in
    c.is_overflow.ensures
    ∙ ap is_overflow c.apply.ensures.answer
    ∙ overflow_is (overflows c.args.mixed (message_of c.args.change) s.stream.stream)
    ∙ sym (ap (λ (o : Option Stream). overflows_at c.args.mixed (message_of c.args.change) o) (at_stream c.args.index.0 c.in-Ok.place c.args.inputs.now c.index-inputs-place.result c.in-Ok.ensures.ok))

pub returns-in-Ok-clause-room : goal.returns-in-Ok-clause-room
returns-in-Ok-clause-room g c = λ r b h.
    let there = all_at (r + room_for (message_of c.args.change)) (b + blocks_with (message_of c.args.change)) c.in-Ok.place c.args.inputs.now c.index-inputs-place.result c.in-Ok.ensures.few h in
    all_with r b c.in-Ok.place c.args.inputs.now _
    (omega (arith, c.apply.ensures.room, there.0), omega (arith, c.apply.ensures.block_room, there.1))
    (all_less (r + room_for (message_of c.args.change)) r (b + blocks_with (message_of c.args.change)) b c.args.inputs.now (omega arith) (omega arith) h)
