use Rattle.px_app.specs.View.{world_course}
use Rattle.px_app.proofs.EitherLaws.{either, one_way}
use Rattle.px_app.proofs.CompleteLaws.{not_refused}
use Rattle.px_app.proofs.law.inputs_are_played_or_refused.Goals as goal

pub returns-clause-either : goal.returns-clause-either
returns-clause-either c = either world_course

pub returns-clause-never_both : goal.returns-clause-never_both
returns-clause-never_both c = not_refused world_course

pub returns-clause-one_way : goal.returns-clause-one_way
returns-clause-one_way c = one_way world_course
