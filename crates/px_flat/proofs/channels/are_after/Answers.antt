use Rattle.std.proofs.Common.{arith}
use Rattle.px_flat.proofs.Same.{ratios_stay_as}
use Rattle.px_flat.proofs.channels.are_after.Goals as goal

pub returns : goal.returns
returns c e =
    ratios_stay_as c.args.feed.now c.args.bases.now c.args.ratios.now c.args.volumes.now
    c.channels-feed.result.now c.values-bases.result.now c.values-ratios.result.now c.values-volumes.result.now
    c.channels-feed.ensures.value c.values-bases.ensures.value c.values-ratios.ensures.value c.values-volumes.ensures.value
    c.requires.volumes (λ k below. c.loop-c.invariant k (omega (arith, below, c.loop-c-test.false)))
