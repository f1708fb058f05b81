use Rattle.px_core.proofs.ParcelLaws.{all_carried, all_posted}
use Rattle.px_core.proofs.laws.parcels_are_those_given_up.Goals as goal

pub returns-clause-waiting : goal.returns-clause-waiting
returns-clause-waiting g c = all_carried

pub returns-clause-posted : goal.returns-clause-posted
returns-clause-posted g c = λ spec_of header steps sink h is. all_posted spec_of header steps h is sink
