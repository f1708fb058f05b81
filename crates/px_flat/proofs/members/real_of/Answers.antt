use Rattle.std.proofs.Common.{◌≡◌, ◌<◌, length, arith, rules, sym, ap, ◌∙◌}
use Rattle.px_flat.specs.Channels.{per_channel}
use Rattle.px_flat.specs.FlatVolume.{real_at}
use Rattle.px_flat.proofs.ByChannel.{listed}
use Rattle.px_flat.proofs.Preserved.{over_some}
use Rattle.px_flat.proofs.members.real_of.Goals as goal

pub returns-clause-value : goal.returns-clause-value
returns-clause-value c =
    let long : length c.loop-c.values ≡ length c.values-channels.result.now = search rules in
    let some : 0 < length c.args.members.now = omega (arith, c.if-members-eq0.false) in
    c.in_channels.ensures
    ∙ listed (real_at c.args.members.now) c.loop-c.values (length c.values-channels.result.now) long (λ k below. c.loop-c.invariant.is k (omega arith))
    ∙ ap (λ (xs : _). per_channel (length xs) (real_at c.args.members.now)) c.values-channels.ensures.value
    ∙ sym (over_some c.args.reference.now c.args.members.now some)
