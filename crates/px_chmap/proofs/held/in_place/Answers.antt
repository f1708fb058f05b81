use Rattle.px_chmap.proofs.HeldLemmas.{is_held}
use Rattle.px_chmap.proofs.held.in_place.Goals as goal

pub returns-clause-held : goal.returns-clause-held
returns-clause-held c = rw c.copy_from_slice.ensures.after (is_held c.args.numbers.now c.requires)
