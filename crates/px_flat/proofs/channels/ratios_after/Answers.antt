use Rattle.std.proofs.Common.{◌≡◌, ◌∙◌, ◌≤◌, ◌<◌, length, refl, ℕ, arith, rules}
use Rattle.px_vol.specs.Volume.{greatest}
use Rattle.px_flat.specs.Channels.{at, ratio_after}
use Rattle.px_flat.proofs.ByChannel.{listed, in_range, one_more}
use Rattle.px_flat.proofs.channels.ratios_after.Goals as goal

pub returns : goal.returns
returns c =
    let long : length c.loop-c.values ≡ length c.values-ratios.result.now = search rules in
    let listing = listed (λ (k : ℕ). ratio_after (at c.values-ratios.result.now k) (at c.values-volumes.result.now k) (at c.values-bases.result.now k)) c.loop-c.values (length c.values-ratios.result.now) long (λ k below. c.loop-c.invariant.is k (omega arith)) in
    c.in_channels.ensures ∙ listing ∙ rw (c.values-ratios.ensures.value, c.values-volumes.ensures.value, c.values-bases.ensures.value) refl

pub ratio_after-requires-clause-ratio : goal.ratio_after-requires-clause-ratio
ratio_after-requires-clause-ratio c =
    let below : c.loop-c.c < length c.args.ratios.now = search rules in
    in_range c.args.ratios.now c.values-ratios.result.now c.loop-c.c c.values-ratios.ensures.value c.values-ratios.ensures.valid below

pub ratio_after-requires-clause-volume : goal.ratio_after-requires-clause-volume
ratio_after-requires-clause-volume c =
    let below : c.loop-c.c < length c.args.volumes.now = search rules in
    in_range c.args.volumes.now c.values-volumes.result.now c.loop-c.c c.values-volumes.ensures.value c.values-volumes.ensures.valid below

pub ratio_after-requires-clause-base : goal.ratio_after-requires-clause-base
ratio_after-requires-clause-base c =
    let below : c.loop-c.c < length c.args.bases.now = search rules in
    in_range c.args.bases.now c.values-bases.result.now c.loop-c.c c.values-bases.ensures.value c.values-bases.ensures.valid below

pub loop-c-preserved : goal.loop-c-preserved
loop-c-preserved c =
    let below : c.loop-c.c < length c.loop-c.values = search rules in
    record {
      is = one_more (λ k v. v ≡ ratio_after (at c.values-ratios.result.now k) (at c.values-volumes.result.now k) (at c.values-bases.result.now k)) c.loop-c.values c.loop-c.c c.ratio_after.result below
          c.ratio_after.ensures.value c.loop-c.invariant.is;
      bounded = one_more (λ k v. v ≤ greatest) c.loop-c.values c.loop-c.c c.ratio_after.result below c.ratio_after.ensures.bounded c.loop-c.invariant.bounded;
    }
