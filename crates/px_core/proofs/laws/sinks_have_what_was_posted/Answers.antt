use Rattle.std.proofs.Common.{refl}
use Rattle.px_state.specs.Out.{waiting_for}
use Rattle.px_core.proofs.BackLaws as back
use Rattle.px_core.proofs.HandingLaws as handing
use Rattle.px_core.proofs.StepLaws as steps
use Rattle.px_core.proofs.laws.sinks_have_what_was_posted.Goals as goal

pub returns-clause-messages : goal.returns-clause-messages
returns-clause-messages g c = λ spec_of state sink n h. (handing.all_out spec_of state sink h.steady n (waiting_for state sink) refl).messages

pub returns-clause-others : goal.returns-clause-others
returns-clause-others g c = λ spec_of state sink n h. (handing.all_out spec_of state sink h.steady n (waiting_for state sink) refl).waits

pub returns-clause-inputs : goal.returns-clause-inputs
returns-clause-inputs g c = λ spec_of state sink n h. (handing.all_out spec_of state sink h.steady n (waiting_for state sink) refl).leaves

pub returns-clause-consistent : goal.returns-clause-consistent
returns-clause-consistent g c = λ spec_of state sink n h. steps.outs_consistent spec_of state sink n h

pub returns-clause-spared : goal.returns-clause-spared
returns-clause-spared g c = steps.step_spares

pub returns-clause-put_back : goal.returns-clause-put_back
returns-clause-put_back g c = λ spec_of state sink m h e. back.back_as_before spec_of state sink m h.steady e

pub returns-clause-all_back : goal.returns-clause-all_back
returns-clause-all_back g c = λ spec_of core sink n h. back.all_back spec_of sink n core h.steady
