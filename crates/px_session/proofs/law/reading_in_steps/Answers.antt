use Rattle.px_session.proofs.SessionLaws as laws
use Rattle.px_session.proofs.law.reading_in_steps.Goals as goal

pub returns-clause-joined : goal.returns-clause-joined
returns-clause-joined c = laws.lead_stand

pub returns-clause-first : goal.returns-clause-first
returns-clause-first c = laws.lead_one
