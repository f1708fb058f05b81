use Rattle.std.proofs.Common.{refl}
use Rattle.px_model.proofs.Counts as counts
use Rattle.px_model.proofs.writing.overflow_is_counted.Goals as goal

pub returns-clause-counted : goal.returns-clause-counted
returns-clause-counted c = counts.counted

pub returns-clause-empty : goal.returns-clause-empty
returns-clause-empty c = refl
