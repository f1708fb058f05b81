use Rattle.px_msg.proofs.Lawful as lawful
use Rattle.px_msg.proofs.letter.lawful_messages_go_on.Goals as goal

pub returns-clause-none : goal.returns-clause-none
returns-clause-none g c = lawful.none

pub returns-clause-front : goal.returns-clause-front
returns-clause-front g c = lawful.front

pub returns-clause-goes_on : goal.returns-clause-goes_on
returns-clause-goes_on g c = lawful.goes_on

pub returns-clause-joins : goal.returns-clause-joins
returns-clause-joins g c = lawful.joins

pub returns-clause-inputs : goal.returns-clause-inputs
returns-clause-inputs g c = lawful.inputs
