use Rattle.std.proofs.Common.{◌∙◌, slice_set, ap, arith}
use Rattle.px_ramp.specs.declared.ramp.Ramp.{Ramp}
use Rattle.px_ramp.proofs.Loops.{aimed_more, aimed_all}
use Rattle.px_ramp.proofs.ramps.aim_each.Goals as goal

pub loop-i-preserved : goal.loop-i-preserved
loop-i-preserved c =
    ap (λ (r : Ramp). slice_set c.loop-i.ramps c.loop-i.i r) c.aimed.ensures
    ∙ aimed_more c.args.frames c.args.at c.args.factors.now c.args.ramps.now c.loop-i.ramps c.loop-i.i _ _
    (omega (arith, c.loop-i-test.true, c.min-count.ensures)) (omega (arith, c.loop-i-test.true, c.min-count.ensures)) c.loop-i.invariant

pub returns : goal.returns
returns c =
    c.loop-i.invariant
    ∙ aimed_all c.args.frames c.args.at c.args.factors.now c.args.ramps.now c.loop-i.i (λ a b. omega (arith, a, b, c.loop-i-test.false, c.min-count.ensures))
