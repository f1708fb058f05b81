use Rattle.px_session.proofs.SessionLaws as laws
use Rattle.px_session.proofs.law.refusals_at_the_end.Goals as goal

pub returns-clause-truncated : goal.returns-clause-truncated
returns-clause-truncated c = laws.session_early

pub returns-clause-endless : goal.returns-clause-endless
returns-clause-endless c = laws.session_endless
