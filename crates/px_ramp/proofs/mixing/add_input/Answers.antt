use Rattle.std.proofs.Common.{◌+◌, ◌+ℤ◌, List, Option, ap, ◌∙◌, subst}
use Rattle.px_mixcache.specs.Cache.{kept_at}
use Rattle.px_kept_mix.specs.Kept.{IsSumOf}
use Rattle.px_kept_mix.specs.Keeping.{share_in}
use Rattle.px_ramp.specs.declared.ramp.Ramp.{Ramp}
use Rattle.px_ramp.specs.RampMix.{ramped}
use Rattle.px_ramp.proofs.Packing.{wide_found}
use Rattle.px_ramp.proofs.mixing.add_input.Goals as goal

pub add_ramped-requires-clause-wide : goal.add_ramped-requires-clause-wide
add_ramped-requires-clause-wide g c = wide_found c.args.sink.now.channels c.args.input.now.index.0 c.args.table.now.ramps _ c.requires.wide c.in-Some.ensures

pub returns-in-Some-clause-sums : goal.returns-in-Some-clause-sums
returns-in-Some-clause-sums g c = λ i k fed less.
    c.add_ramped.ensures.sums i k fed less
    ∙ ap (λ (o : Option (List Ramp)). kept_at c.args.cache.now i k +ℤ share_in c.args.sink.now (ramped c.args.frames (c.args.horizon + k) o c.args.input.now.stream.stream) i k) c.in-Some.ensures

pub returns-in-Some-clause-little : goal.returns-in-Some-clause-little
returns-in-Some-clause-little g c = λ i k fed less.
    subst (λ (o : Option (List Ramp)). IsSumOf 1 (share_in c.args.sink.now (ramped c.args.frames (c.args.horizon + k) o c.args.input.now.stream.stream) i k)) c.in-Some.ensures
    (c.add_ramped.ensures.little i k fed less)

pub returns-in-None-clause-sums : goal.returns-in-None-clause-sums
returns-in-None-clause-sums g c = λ i k fed less.
    c.add_flat.ensures.sums i k fed less
    ∙ ap (λ (o : Option (List Ramp)). kept_at c.args.cache.now i k +ℤ share_in c.args.sink.now (ramped c.args.frames (c.args.horizon + k) o c.args.input.now.stream.stream) i k) c.in-None.ensures

pub returns-in-None-clause-little : goal.returns-in-None-clause-little
returns-in-None-clause-little g c = λ i k fed less.
    subst (λ (o : Option (List Ramp)). IsSumOf 1 (share_in c.args.sink.now (ramped c.args.frames (c.args.horizon + k) o c.args.input.now.stream.stream) i k)) c.in-None.ensures
    (c.add_flat.ensures.little i k fed less)
