use Rattle.std.proofs.Common.{◌+◌, ◌+ℤ◌, ap, sym, ◌∙◌, subst, arith}
use Rattle.px_model.specs.Stream.{Stream}
use Rattle.px_mixcache.specs.Cache.{kept_at}
use Rattle.px_kept_mix.specs.Kept.{IsSumOf}
use Rattle.px_kept_mix.specs.Keeping.{share_in}
use Rattle.px_ramp.specs.RampMix.{values_at}
use Rattle.px_ramp.proofs.Sharing.{own_factors}
use Rattle.px_ramp.proofs.shares.add_ramped.Goals as goal

pub returns-then-running-eq0-clause-sums : goal.returns-then-running-eq0-clause-sums
returns-then-running-eq0-clause-sums g c = λ i k fed less.
    c.add_flat.ensures.sums i k fed less
    ∙ ap (λ (t : Stream). kept_at c.args.cache.now i k +ℤ share_in c.args.sink.now t i k)
    (sym (own_factors c.args.stream.now.stream (values_at c.args.frames (c.args.horizon + k) c.args.ramps.now)
    (c.running-running.ensures.stands (c.args.horizon + k) (omega (arith, c.if-running-eq0.true)) (omega (arith, less)) ∙ c.factors.ensures.value)))

pub returns-then-running-eq0-clause-little : goal.returns-then-running-eq0-clause-little
returns-then-running-eq0-clause-little g c = λ i k fed less.
    subst (λ (t : Stream). IsSumOf 1 (share_in c.args.sink.now t i k))
    (sym (own_factors c.args.stream.now.stream (values_at c.args.frames (c.args.horizon + k) c.args.ramps.now)
    (c.running-running.ensures.stands (c.args.horizon + k) (omega (arith, c.if-running-eq0.true)) (omega (arith, less)) ∙ c.factors.ensures.value)))
    (c.add_flat.ensures.little i k fed less)
