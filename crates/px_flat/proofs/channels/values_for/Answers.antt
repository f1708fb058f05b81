use Rattle.std.proofs.Common.{◌≡◌, ◌∙◌, length, arith, rules}
use Rattle.px_flat.specs.Channels.{value_for}
use Rattle.px_flat.proofs.ByChannel.{listed}
use Rattle.px_flat.proofs.channels.values_for.Goals as goal

pub returns : goal.returns
returns c =
    let long : length c.loop-c.values ≡ c.args.channels = search rules in
    c.in_channels.ensures ∙ listed (value_for c.args.feed.now c.args.volumes.now) c.loop-c.values c.args.channels long (λ k below. c.loop-c.invariant.is k (omega arith))
