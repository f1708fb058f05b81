use Rattle.std.proofs.Common.{Option, sym, subst}
use Rattle.px_model.specs.Stream.{Stream}
use Rattle.px_kept_mix.specs.Keeping.{SharesBetweenThere, AreLittleThere}
use Rattle.px_lane.proofs.Places.{at_stream, gap_stream}
use Rattle.px_lane.proofs.Sharing.{fed_at, nothing_shared_between}
use Rattle.px_lane.proofs.finding.share_between_at.Goals as goal

pub change_between-requires-clause-fed : goal.change_between-requires-clause-fed
change_between-requires-clause-fed g c = fed_at c.args.sink.now.channels c.args.inputs.now c.in-Ok.place c.index-inputs-place.result c.requires.fed c.in-Ok.ensures.few

pub returns-in-Err-clause-sums : goal.returns-in-Err-clause-sums
returns-in-Err-clause-sums g c =
    subst (λ (o : Option Stream). SharesBetweenThere c.args.add c.args.sink.now o c.args.from c.args.to c.args.kept.now c.args.kept.now)
    (sym (gap_stream c.args.index.0 c.in-Err.field-0 c.args.inputs.now c.in-Err.ensures.err))
    (nothing_shared_between c.args.add c.args.sink.now c.args.from c.args.to c.args.kept.now)

pub returns-in-Err-clause-little : goal.returns-in-Err-clause-little
returns-in-Err-clause-little g c =
    subst (λ (o : Option Stream). AreLittleThere c.args.sink.now o c.args.from c.args.to)
    (sym (gap_stream c.args.index.0 c.in-Err.field-0 c.args.inputs.now c.in-Err.ensures.err)) tt

pub returns-in-Ok-clause-sums : goal.returns-in-Ok-clause-sums
returns-in-Ok-clause-sums g c =
    subst (λ (o : Option Stream). SharesBetweenThere c.args.add c.args.sink.now o c.args.from c.args.to c.args.kept.now c.change_between.new.self)
    (sym (at_stream c.args.index.0 c.in-Ok.place c.args.inputs.now c.index-inputs-place.result c.in-Ok.ensures.ok))
    c.change_between.ensures.sums

pub returns-in-Ok-clause-little : goal.returns-in-Ok-clause-little
returns-in-Ok-clause-little g c =
    subst (λ (o : Option Stream). AreLittleThere c.args.sink.now o c.args.from c.args.to)
    (sym (at_stream c.args.index.0 c.in-Ok.place c.args.inputs.now c.index-inputs-place.result c.in-Ok.ensures.ok))
    c.change_between.ensures.little
