use Rattle.std.proofs.Common.{ℕ, ◌*◌, ap, sym, ◌∙◌}
use Rattle.bench.proofs.queue.turn.Goals as goal

pub peek-requires-clause-whole : goal.peek-requires-clause-whole
peek-requires-clause-whole c = (480, c.requires.size ∙ ap (λ (n : ℕ). 480 * n) (sym c.requires.frame))
