use Rattle.std.proofs.Common.{◌∙◌, ◌-◌, ap, ℕ}
use Rattle.px_ramp.proofs.Between.{fallen}
use Rattle.px_ramp.proofs.ramp.between.Goals as goal

pub returns-then-to-from : goal.returns-then-to-from
returns-then-to-from c = ap (λ (m : ℕ). c.args.from - m) c.part.ensures.value ∙ fallen c.args.from c.args.to c.args.way c.args.frames c.if-to-from.true c.requires.some c.requires.inside
