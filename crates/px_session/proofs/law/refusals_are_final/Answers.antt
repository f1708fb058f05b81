use Rattle.px_session.proofs.FinalLaws.{one_refusal, final_refusal}
use Rattle.px_session.proofs.law.refusals_are_final.Goals as goal

pub returns-clause-one : goal.returns-clause-one
returns-clause-one c = one_refusal

pub returns-clause-stays : goal.returns-clause-stays
returns-clause-stays c = final_refusal
