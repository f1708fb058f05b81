use Rattle.px_ramp.proofs.Decided as turns_decide
use Rattle.px_ramp.proofs.laws.ramped_frames_are_decided.Goals as goal

pub returns-clause-all_consumed : goal.returns-clause-all_consumed
returns-clause-all_consumed c = turns_decide.run_is_consumed

pub returns-clause-decided : goal.returns-clause-decided
returns-clause-decided c = turns_decide.run_is_decided

pub returns-clause-has_one : goal.returns-clause-has_one
returns-clause-has_one c = turns_decide.run_has_one

pub returns-clause-before : goal.returns-clause-before
returns-clause-before c = turns_decide.played_are_decided

pub returns-clause-last : goal.returns-clause-last
returns-clause-last c = turns_decide.last_reaching
