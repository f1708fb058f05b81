use Rattle.std.proofs.Common.{refl}
use Rattle.px_ramp.proofs.Ramped.{turn_stands}
use Rattle.px_ramp.proofs.laws.ramped_turn_is_the_plain_one.Goals as goal

pub returns-clause-turn : goal.returns-clause-turn
returns-clause-turn c = λ samples n rs frames k messages. refl

pub returns-clause-notices : goal.returns-clause-notices
returns-clause-notices c = λ samples rs frames k messages. refl

pub returns-clause-stop : goal.returns-clause-stop
returns-clause-stop c = λ n rs frames messages. refl

pub returns-clause-stop_notices : goal.returns-clause-stop_notices
returns-clause-stop_notices c = λ rs frames messages. refl

pub returns-clause-stands : goal.returns-clause-stands
returns-clause-stands c = turn_stands
