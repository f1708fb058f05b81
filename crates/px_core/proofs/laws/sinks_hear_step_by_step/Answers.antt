use Rattle.px_core.proofs.HearingLaws as hearing
use Rattle.px_core.proofs.laws.sinks_hear_step_by_step.Goals as goal

pub returns-clause-joined : goal.returns-clause-joined
returns-clause-joined g c = λ spec_of state earlier later sink. hearing.posted_joined spec_of sink earlier later state

pub returns-clause-spared : goal.returns-clause-spared
returns-clause-spared g c = λ spec_of state steps sink h. hearing.nothing_posted spec_of sink steps state h

pub returns-clause-posted : goal.returns-clause-posted
returns-clause-posted g c = λ spec_of state sink n h. hearing.outs_take spec_of sink n state h

pub returns-clause-after : goal.returns-clause-after
returns-clause-after g c = λ spec_of state sink n. hearing.outs spec_of sink n state
