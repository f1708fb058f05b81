use Rattle.px_model.specs.Stream.{Stream}
use Rattle.px_model.proofs.Matching as matching
use Rattle.px_model.proofs.orderly.orderly_messages_go_on.Goals as goal

pub returns-clause-turn : goal.returns-clause-turn
returns-clause-turn c = matching.turn_leaves

pub returns-clause-stop : goal.returns-clause-stop
returns-clause-stop c = matching.stop_leaves

pub returns-clause-joins : goal.returns-clause-joins
returns-clause-joins c = matching.orderly_joins Stream.spec

pub returns-clause-begins : goal.returns-clause-begins
returns-clause-begins c = matching.orderly_begins Stream.spec

pub returns-clause-goes_on : goal.returns-clause-goes_on
returns-clause-goes_on c = matching.orderly_goes_on Stream.spec

pub returns-clause-history : goal.returns-clause-history
returns-clause-history c = matching.history_is_orderly
