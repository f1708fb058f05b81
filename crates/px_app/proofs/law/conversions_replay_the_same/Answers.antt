use Rattle.px_app.specs.Convert.{free_course}
use Rattle.px_app.specs.View.{world_course, replay_mode}
use Rattle.px_app.proofs.ConvertLaws.{read_again, played_again, same_output}
use Rattle.px_app.proofs.law.conversions_replay_the_same.Goals as goal

pub returns-clause-again : goal.returns-clause-again
returns-clause-again c = read_again free_course

pub returns-clause-played : goal.returns-clause-played
returns-clause-played c = λ bytes header events are short p. played_again world_course bytes header events are p short

pub returns-clause-same : goal.returns-clause-same
returns-clause-same c = λ bytes header other events others l are short p q. same_output replay_mode bytes header other events others l are p short q
