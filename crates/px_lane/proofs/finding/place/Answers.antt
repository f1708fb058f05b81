use Rattle.px_lane.proofs.Places.{below_before}
use Rattle.px_lane.proofs.finding.place.Goals as goal

pub returns-then-is_at-clause-below : goal.returns-then-is_at-clause-below
returns-then-is_at-clause-below c =
    below_before c.args.index.0 c.place_if_consecutive-near.result c.args.inputs.now c.requires (c.is_at.ensures.inside c.if-is_at.true) (λ d. c.is_at.ensures.same d c.if-is_at.true)
