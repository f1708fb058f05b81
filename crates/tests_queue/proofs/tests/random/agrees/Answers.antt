use Rattle.std.proofs.Common.{ℕ, ◌*◌, ap, sym}
use Rattle.tests_queue.proofs.tests.random.agrees.Goals as goal

pub peek-requires-clause-whole : goal.peek-requires-clause-whole
peek-requires-clause-whole c = (16, ap (λ (n : ℕ). 16 * n) (sym c.requires))
