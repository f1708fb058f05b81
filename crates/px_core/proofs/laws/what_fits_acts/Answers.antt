use Rattle.px_core.proofs.ActingLaws as acting
use Rattle.px_core.proofs.AnsweringLaws as answering
use Rattle.px_core.proofs.laws.what_fits_acts.Goals as goal

pub returns-clause-grouped : goal.returns-clause-grouped
returns-clause-grouped g c = λ spec_of state x h held. acting.is_grouped spec_of state h x held

pub returns-clause-ended : goal.returns-clause-ended
returns-clause-ended g c = λ spec_of state sink x parcel h it left. acting.ended_goes spec_of state h sink x parcel it left

pub returns-clause-moved : goal.returns-clause-moved
returns-clause-moved g c = λ spec_of state sink to x parcel h it moves. acting.moved_settles spec_of state h sink x parcel it to moves

pub returns-clause-brought : goal.returns-clause-brought
returns-clause-brought g c = λ spec_of state sink to x parcel h it moves. acting.moved_brought spec_of state h sink x parcel it to moves

pub returns-clause-answered : goal.returns-clause-answered
returns-clause-answered g c = λ spec_of state sink n x w h about waits answers. answering.request_answered spec_of state h sink x w waits n about answers
