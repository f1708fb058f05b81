use Rattle.px_core.proofs.EndLaws as ending
use Rattle.px_core.proofs.laws.connections_end_once.Goals as goal

pub returns-clause-step : goal.returns-clause-step
returns-clause-step g c = λ spec_of state s conn h. ending.step_once conn spec_of state s h

pub returns-clause-steps : goal.returns-clause-steps
returns-clause-steps g c = λ spec_of state steps conn is h. ending.steps_once conn spec_of state steps is h
