use Rattle.std.proofs.Common.{◌≡◌, ◌∙◌, length, refl, ℕ, arith, rules, ◌==◌}
use Rattle.std.specs.Prelude.{if◌then◌else◌}
use Rattle.px_flat.specs.Channels.{at}
use Rattle.px_flat.proofs.ByChannel.{listed}
use Rattle.px_flat.proofs.channels.widened.Goals as goal

pub returns : goal.returns
returns c =
    let long : length c.loop-c.values ≡ c.args.channels = search rules in
    let listing = listed (λ (k : ℕ). if length c.values-given.result.now == 1 then at c.values-given.result.now 0 else at c.values-given.result.now k) c.loop-c.values (c.args.channels) long (λ k below. c.loop-c.invariant.is k (omega arith)) in
    c.in_channels.ensures ∙ listing ∙ rw (c.values-given.ensures.value) refl
