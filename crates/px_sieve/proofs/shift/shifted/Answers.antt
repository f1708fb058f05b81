use Rattle.std.proofs.Common.{ap, sym, ◌∙◌}
use Rattle.px_sieve.specs.Scene.{shifted}
use Rattle.px_sieve.proofs.Shifting.{unshifted}
use Rattle.px_sieve.proofs.shift.shifted.Goals as goal

pub returns-in-Unshifted : goal.returns-in-Unshifted
returns-in-Unshifted c = unshifted c.args.effects ∙ ap (λ s. shifted s c.args.effects) (sym c.in-Unshifted.is)
