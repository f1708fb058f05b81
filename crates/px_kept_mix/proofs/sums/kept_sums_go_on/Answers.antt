use Rattle.px_kept_mix.proofs.Follows as follows
use Rattle.px_kept_mix.proofs.sums.kept_sums_go_on.Goals as goal

pub returns-clause-bounded : goal.returns-clause-bounded
returns-clause-bounded c = follows.bounded

pub returns-clause-forward : goal.returns-clause-forward
returns-clause-forward c = follows.forward

pub returns-clause-asked : goal.returns-clause-asked
returns-clause-asked c = follows.asked

pub returns-clause-more : goal.returns-clause-more
returns-clause-more c = follows.more
