use Rattle.px_session.proofs.Answered.{event_in_second, written_in_second}
use Rattle.px_session.proofs.law.first_form_in_second.Goals as goal

pub returns-clause-lawful : goal.returns-clause-lawful
returns-clause-lawful c = event_in_second

pub returns-clause-writable : goal.returns-clause-writable
returns-clause-writable c = written_in_second
