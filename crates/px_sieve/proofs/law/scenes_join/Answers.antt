use Rattle.px_sieve.proofs.Scenes.{events-join, worlds-join, shown-join, admitted-joins}
use Rattle.px_sieve.proofs.law.scenes_join.Goals as goal

pub returns-clause-events : goal.returns-clause-events
returns-clause-events c = events-join

pub returns-clause-world : goal.returns-clause-world
returns-clause-world c = worlds-join

pub returns-clause-shown : goal.returns-clause-shown
returns-clause-shown c = shown-join

pub returns-clause-admitted : goal.returns-clause-admitted
returns-clause-admitted c = admitted-joins
