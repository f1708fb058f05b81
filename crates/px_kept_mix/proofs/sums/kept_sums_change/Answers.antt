use Rattle.px_kept_mix.proofs.Follows as follows
use Rattle.px_kept_mix.proofs.sums.kept_sums_change.Goals as goal

pub returns-clause-changed : goal.returns-clause-changed
returns-clause-changed c = follows.changed

pub returns-clause-comes : goal.returns-clause-comes
returns-clause-comes c = follows.comes

pub returns-clause-leaves : goal.returns-clause-leaves
returns-clause-leaves c = follows.leaves
