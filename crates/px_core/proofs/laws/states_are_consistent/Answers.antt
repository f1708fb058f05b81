use Rattle.std.proofs.Common.{sym, subst}
use Rattle.px_core.specs.Consistency.{IsConsistent}
use Rattle.px_core.proofs.BackLaws as back
use Rattle.px_core.proofs.StepLaws as steps
use Rattle.px_core.proofs.laws.states_are_consistent.Goals as goal

pub returns-clause-new : goal.returns-clause-new
returns-clause-new g c = steps.new_keeps

pub returns-clause-step : goal.returns-clause-step
returns-clause-step g c = steps.step_keeps

pub returns-clause-steps : goal.returns-clause-steps
returns-clause-steps g c = steps.steps_keep

pub returns-clause-orderly : goal.returns-clause-orderly
returns-clause-orderly g c = λ spec_of state h index s e. (h.steady.in_step index s e).orderly

pub returns-clause-back : goal.returns-clause-back
returns-clause-back g c = λ spec_of state sink m h e. subst (IsConsistent spec_of) (sym (back.back_as_before spec_of state sink m h.steady e)) h
