use Rattle.px_vol.proofs.VolumeLemmas.{product_of-norm, quotient_undone}
use Rattle.px_vol.proofs.laws.dividing_is_undone.Goals as goal

pub returns-clause-undone : goal.returns-clause-undone
returns-clause-undone c = quotient_undone

pub returns-clause-neutral : goal.returns-clause-neutral
returns-clause-neutral c = product_of-norm
