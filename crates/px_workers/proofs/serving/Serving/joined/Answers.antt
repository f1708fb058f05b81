use Rattle.px_workers.proofs.serving.Serving.joined.Goals as goal

pub returns-clause-lasting : goal.returns-clause-lasting
returns-clause-lasting g c = c.join_all.ensures.lasting
