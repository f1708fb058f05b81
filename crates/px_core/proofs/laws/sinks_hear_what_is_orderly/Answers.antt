use Rattle.px_state.specs.State.{new_state}
use Rattle.px_core.proofs.HearingLaws as hearing
use Rattle.px_core.proofs.StepLaws as steps
use Rattle.px_core.proofs.laws.sinks_hear_what_is_orderly.Goals as goal

pub returns-clause-orderly : goal.returns-clause-orderly
returns-clause-orderly g c = λ spec_of state given sink s there is h. (hearing.heard_by spec_of sink s given state there is h).orderly

pub returns-clause-inputs : goal.returns-clause-inputs
returns-clause-inputs g c = λ spec_of state given sink s there is h. (hearing.heard_by spec_of sink s given state there is h).left

pub returns-clause-new : goal.returns-clause-new
returns-clause-new g c = λ spec_of header given sink s h there is. (hearing.heard_by spec_of sink s given (new_state header) there is (steps.new_keeps spec_of header h)).orderly

pub returns-clause-sinks : goal.returns-clause-sinks
returns-clause-sinks g c = hearing.steps_sinks

pub returns-clause-posted : goal.returns-clause-posted
returns-clause-posted g c = λ spec_of state given sink s there is h. (hearing.heard_by spec_of sink s given state there is h).each
