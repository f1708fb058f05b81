use Rattle.px_kept_mix.proofs.Exchanging as exchanging
use Rattle.px_kept_mix.proofs.Stretches as stretches
use Rattle.px_kept_mix.proofs.laws.sums_are_kept.Goals as goal

pub returns-clause-small : goal.returns-clause-small
returns-clause-small c = exchanging.small

pub returns-clause-one_more : goal.returns-clause-one_more
returns-clause-one_more c = exchanging.one_more_small

pub returns-clause-forward : goal.returns-clause-forward
returns-clause-forward c = exchanging.forward

pub returns-clause-asked : goal.returns-clause-asked
returns-clause-asked c = exchanging.asked

pub returns-clause-one_more_between : goal.returns-clause-one_more_between
returns-clause-one_more_between c = stretches.one_more_between
