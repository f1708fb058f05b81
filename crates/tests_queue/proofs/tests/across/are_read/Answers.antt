use Rattle.std.proofs.Common.{ℕ, ◌*◌, ap, sym}
use Rattle.tests_queue.proofs.tests.across.are_read.Goals as goal

pub peek-requires-clause-whole : goal.peek-requires-clause-whole
peek-requires-clause-whole c = (2, ap (λ (n : ℕ). 2 * n) (sym c.requires))
