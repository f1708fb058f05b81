use Rattle.std.proofs.Common.{◌≡◌, ◌∙◌, length, refl, ℕ, arith, rules, max}
use Rattle.px_flat.specs.Channels.{at}
use Rattle.px_flat.proofs.ByChannel.{listed}
use Rattle.px_flat.proofs.channels.raised.Goals as goal

pub returns-clause-value : goal.returns-clause-value
returns-clause-value c =
    let long : length c.loop-c.values ≡ length c.values-volumes.result.now = search rules in
    let listing = listed (λ (k : ℕ). max (at c.values-volumes.result.now k) (at c.values-others.result.now k)) c.loop-c.values (length c.values-volumes.result.now) long (λ k below. c.loop-c.invariant.is k (omega arith)) in
    c.in_channels.ensures ∙ listing ∙ rw (c.values-volumes.ensures.value, c.values-others.ensures.value) refl
