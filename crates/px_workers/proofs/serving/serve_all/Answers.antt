use Rattle.px_workers.proofs.Joining.{starts_last, boxes_last, tapes_last}
use Rattle.px_workers.proofs.serving.serve_all.Goals as goal

pub returns-clause-starts : goal.returns-clause-starts
returns-clause-starts g c = starts_last _ _ c.worked.ensures.lasting

pub returns-clause-boxes : goal.returns-clause-boxes
returns-clause-boxes g c = boxes_last _ _ c.worked.ensures.lasting

pub returns-clause-tapes : goal.returns-clause-tapes
returns-clause-tapes g c = tapes_last _ _ c.worked.ensures.lasting
