use Rattle.px_core.proofs.IndexLaws.{none_indexed, step_indexed, steps_indexed}
use Rattle.px_core.proofs.AgainLaws.{none_again}
use Rattle.px_core.proofs.OwnLaws.{all_own}
use Rattle.px_core.proofs.laws.indices_are_given_once.Goals as goal

pub returns-clause-new : goal.returns-clause-new
returns-clause-new g c = λ header. none_indexed

pub returns-clause-step : goal.returns-clause-step
returns-clause-step g c = step_indexed

pub returns-clause-steps : goal.returns-clause-steps
returns-clause-steps g c = steps_indexed

pub returns-clause-own : goal.returns-clause-own
returns-clause-own g c = all_own

pub returns-clause-again : goal.returns-clause-again
returns-clause-again g c = none_again
