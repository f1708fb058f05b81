use Rattle.px_world.proofs.Runs.{world-joins, records-join, effects-join, admitted-join, admitted-split}
use Rattle.px_world.proofs.law.runs_join.Goals as goal

pub returns-clause-world : goal.returns-clause-world
returns-clause-world c = world-joins

pub returns-clause-records : goal.returns-clause-records
returns-clause-records c = records-join

pub returns-clause-effects : goal.returns-clause-effects
returns-clause-effects c = effects-join

pub returns-clause-admitted : goal.returns-clause-admitted
returns-clause-admitted c = admitted-join

pub returns-clause-split : goal.returns-clause-split
returns-clause-split c = admitted-split
