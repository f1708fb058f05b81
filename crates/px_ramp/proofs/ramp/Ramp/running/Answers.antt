use Rattle.std.proofs.Common.{arith}
use Rattle.px_ramp.proofs.Unramped.{ends_after}
use Rattle.px_ramp.proofs.ramp.Ramp.running.Goals as goal

pub returns-clause-stands : goal.returns-clause-stands
returns-clause-stands c = λ f later less.
    ends_after c.args.frames c.args.at f c.args.factor c.way.result c.min.result c.args.most c.args.self.now c.requires c.if-self-factor-2.false (omega (arith, c.if-at-self.false)) c.way.ensures c.min.ensures
    later less
