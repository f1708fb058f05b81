use Rattle.std.proofs.Common.{arith}
use Rattle.px_lane.proofs.Places.{at_place, gap_before, gap_at_end}
use Rattle.px_lane.proofs.finding.find.Goals as goal

pub returns-then-place-inputs-clause-err : goal.returns-then-place-inputs-clause-err
returns-then-place-inputs-clause-err c = gap_at_end c.args.index.0 c.place-place.result c.args.inputs.now c.place-place.ensures.below c.if-place-inputs.true

pub returns-then-inputs-place-clause-ok : goal.returns-then-inputs-place-clause-ok
returns-then-inputs-place-clause-ok c =
    at_place c.args.index.0 c.place-place.result c.args.inputs.now c.index-inputs-place.result c.requires c.place-place.ensures.below c.if-place-inputs.false c.if-inputs-place.true

pub returns-clause-err : goal.returns-clause-err
returns-clause-err c =
    gap_before c.args.index.0 c.place-place.result c.args.inputs.now c.index-inputs-place.result c.requires c.place-place.ensures.below c.if-place-inputs.false
    (omega (arith, c.place-place.ensures.end c.index-inputs-place.result c.if-place-inputs.false, c.if-inputs-place.false))
