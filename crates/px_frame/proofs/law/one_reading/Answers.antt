use Rattle.px_frame.proofs.ReadingLemmas.{one-reading}
use Rattle.px_frame.proofs.law.one_reading.Goals as goal

pub returns : goal.returns
returns c = one-reading
