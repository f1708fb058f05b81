use Rattle.px_model.proofs.Joined as joined
use Rattle.px_model.proofs.Rounds as rounds
use Rattle.px_model.proofs.turns.sink_keeps.Goals as goal

pub returns-clause-empty : goal.returns-clause-empty
returns-clause-empty c = rounds.empty_keeps

pub returns-clause-turn : goal.returns-clause-turn
returns-clause-turn c = rounds.turn_keeps

pub returns-clause-stop : goal.returns-clause-stop
returns-clause-stop c = rounds.stop_keeps

pub returns-clause-turn_rises : goal.returns-clause-turn_rises
returns-clause-turn_rises c = λ samples sink keeps n messages. rounds.horizon_rises sink keeps n

pub returns-clause-stop_rises : goal.returns-clause-stop_rises
returns-clause-stop_rises c = λ sink keeps messages. rounds.horizon_rises sink keeps 0

pub returns-clause-history : goal.returns-clause-history
returns-clause-history c = joined.replay_keeps
