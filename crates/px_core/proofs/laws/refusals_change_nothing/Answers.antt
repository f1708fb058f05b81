use Rattle.px_core.proofs.RefusalLaws as refusing
use Rattle.px_core.proofs.laws.refusals_change_nothing.Goals as goal

pub returns-clause-ended : goal.returns-clause-ended
returns-clause-ended g c = refusing.ended_is_ignored

pub returns-clause-known : goal.returns-clause-known
returns-clause-known g c = refusing.known_is_ignored

pub returns-clause-refused : goal.returns-clause-refused
returns-clause-refused g c = λ spec_of state s conn tag code more e. (refusing.refusal_changes_nothing conn tag code spec_of state s more e).0

pub returns-clause-alone : goal.returns-clause-alone
returns-clause-alone g c = λ spec_of state s conn tag code more e. (refusing.refusal_changes_nothing conn tag code spec_of state s more e).1

pub returns-clause-broken : goal.returns-clause-broken
returns-clause-broken g c = λ spec_of state s conn fault at e. refusing.fault_marks_its_own conn fault at spec_of state s e
