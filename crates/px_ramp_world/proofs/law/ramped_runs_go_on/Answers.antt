use Rattle.px_ramp_world.proofs.Runs.{world-push, records-push, effects-push, admitted-push}
use Rattle.px_ramp_world.proofs.law.ramped_runs_go_on.Goals as goal

pub returns-clause-world : goal.returns-clause-world
returns-clause-world c = world-push

pub returns-clause-records : goal.returns-clause-records
returns-clause-records c = records-push

pub returns-clause-effects : goal.returns-clause-effects
returns-clause-effects c = effects-push

pub returns-clause-admitted : goal.returns-clause-admitted
returns-clause-admitted c = admitted-push
