use Rattle.px_core.proofs.MisfitLaws as misfit
use Rattle.px_core.proofs.WayLaws as ways
use Rattle.px_core.proofs.laws.misfits_change_nothing.Goals as goal

pub returns-clause-misfits : goal.returns-clause-misfits
returns-clause-misfits g c = λ spec_of state sink n h is. misfit.misfit_does_nothing spec_of state sink h.steady.rising n is

pub returns-clause-ended : goal.returns-clause-ended
returns-clause-ended g c = λ spec_of state sink n x h is about left. misfit.ended_does_nothing spec_of state sink h.steady.rising n is x about left

pub returns-clause-settled : goal.returns-clause-settled
returns-clause-settled g c = λ spec_of state x h held settled left. ways.settled_stays spec_of state h x held settled left
