use Rattle.px_session.proofs.SessionLaws as laws
use Rattle.px_session.proofs.law.one_reading.Goals as goal

pub returns-clause-some : goal.returns-clause-some
returns-clause-some c = laws.some_reading

pub returns-clause-one : goal.returns-clause-one
returns-clause-one c = laws.one_reading

pub returns-clause-again : goal.returns-clause-again
returns-clause-again c = laws.session_again

pub returns-clause-found : goal.returns-clause-found
returns-clause-found c = laws.session_found

pub returns-clause-whole : goal.returns-clause-whole
returns-clause-whole c = laws.session_whole
