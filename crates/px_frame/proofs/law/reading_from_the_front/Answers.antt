use Rattle.px_frame.proofs.MeaningLemmas.{meaning-read, read-only}
use Rattle.px_frame.proofs.law.reading_from_the_front.Goals as goal

pub returns-clause-found : goal.returns-clause-found
returns-clause-found c = meaning-read

pub returns-clause-only : goal.returns-clause-only
returns-clause-only c = read-only
