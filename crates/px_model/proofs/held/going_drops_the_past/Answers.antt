use Rattle.px_model.proofs.Pointwise as pointwise
use Rattle.px_model.proofs.held.going_drops_the_past.Goals as goal

pub returns-clause-rises : goal.returns-clause-rises
returns-clause-rises c = pointwise.going_rises

pub returns-clause-stays : goal.returns-clause-stays
returns-clause-stays c = pointwise.going_frames

pub returns-clause-left : goal.returns-clause-left
returns-clause-left c = pointwise.left_to_edge
