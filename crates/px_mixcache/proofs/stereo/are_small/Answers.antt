use Rattle.std.proofs.Common.{rules, arith, w64, FitsSigned}
use Rattle.px_kernel.specs.Kernel.{at}
use Rattle.px_mixcache.proofs.StereoFrames.{small_more}
use Rattle.px_mixcache.proofs.stereo.are_small.Goals as goal

pub loop-k-preserved : goal.loop-k-preserved
loop-k-preserved c =
    let left : FitsSigned w64 (at c.args.left.now c.loop-k.k) = search rules in
    let right : FitsSigned w64 (at c.args.right.now c.loop-k.k) = search rules in
    small_more c.args.left.now c.args.right.now c.loop-k.all c.raised.result c.raised-in-loop-k.result c.loop-k.k left right
    c.loop-k.invariant c.raised.ensures c.raised-in-loop-k.ensures

pub returns-clause-left : goal.returns-clause-left
returns-clause-left c = λ small k less. (c.loop-k.invariant (search (rules, small)) k (omega (arith, less, c.loop-k-test.false))).0

pub returns-clause-right : goal.returns-clause-right
returns-clause-right c = λ small k less. (c.loop-k.invariant (search (rules, small)) k (omega (arith, less, c.loop-k-test.false))).1
