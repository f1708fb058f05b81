use Rattle.px_sample.proofs.LawLemmas.{cleared_run, same_run}
use Rattle.px_sample.proofs.laws.packing_gives_back.Goals as goal

pub returns-clause-cleared : goal.returns-clause-cleared
returns-clause-cleared c = cleared_run

pub returns-clause-same : goal.returns-clause-same
returns-clause-same c = same_run
