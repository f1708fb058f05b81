use Rattle.px_kept_mix.proofs.Exchanging as exchanging
use Rattle.px_kept_mix.proofs.Stretches as stretches
use Rattle.px_kept_mix.proofs.laws.shares_are_exchanged.Goals as goal

pub returns-clause-changed : goal.returns-clause-changed
returns-clause-changed c = exchanging.changes

pub returns-clause-comes : goal.returns-clause-comes
returns-clause-comes c = exchanging.comes

pub returns-clause-leaves : goal.returns-clause-leaves
returns-clause-leaves c = exchanging.leaves

pub returns-clause-changed_between : goal.returns-clause-changed_between
returns-clause-changed_between c = stretches.changes_between
