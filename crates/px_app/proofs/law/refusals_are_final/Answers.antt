use Rattle.px_app.specs.View.{world_course}
use Rattle.px_app.proofs.FinalLaws.{one_refusal, final_refusal}
use Rattle.px_app.proofs.law.refusals_are_final.Goals as goal

pub returns-clause-one : goal.returns-clause-one
returns-clause-one c = one_refusal world_course

pub returns-clause-stays : goal.returns-clause-stays
returns-clause-stays c = final_refusal world_course
