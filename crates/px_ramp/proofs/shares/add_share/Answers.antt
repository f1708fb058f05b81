use Rattle.std.proofs.Common.{ap, ◌∙◌, sym, subst, arith, ℤ, ◌+ℤ◌}
use Rattle.px_model.specs.Control.{with_factors}
use Rattle.px_mixcache.specs.Cache.{kept_at, part_at}
use Rattle.px_kept_mix.specs.Kept.{IsSumOf}
use Rattle.px_kept_mix.specs.Keeping.{share_in}
use Rattle.px_ramp.proofs.Sharing.{share_none, none_added, none_little, not_given, part_is_share, part_before, part_after}
use Rattle.px_ramp.proofs.shares.add_share.Goals as goal

pub frame_values-given-requires : goal.frame_values-given-requires
frame_values-given-requires g c = (1, omega (arith, c.requires.size, c.requires.fed))

pub returns-then-given-eq0-clause-sums : goal.returns-then-given-eq0-clause-sums
returns-then-given-eq0-clause-sums g c = λ i fed.
    let s = c.args.stream.now.stream in
    let gives = c.frame_values-given.ensures.values 1 (omega (arith, c.requires.size, c.requires.fed)) in
    none_added (kept_at c.args.cache.now i c.args.ahead) (share_in c.args.sink.now (with_factors s c.args.factors.now) i c.args.ahead)
    (share_none c.args.sink.now s c.args.factors.now i c.args.ahead
    (not_given c.width.result s c.args.ahead c.frame_values-given.result c.args.values.now c.frame_values-given.new.out gives c.if-given-eq0.true (omega (arith, c.requires.inside, c.requires.near))))

pub returns-then-given-eq0-clause-little : goal.returns-then-given-eq0-clause-little
returns-then-given-eq0-clause-little g c = λ i fed.
    let s = c.args.stream.now.stream in
    let gives = c.frame_values-given.ensures.values 1 (omega (arith, c.requires.size, c.requires.fed)) in
    none_little (share_in c.args.sink.now (with_factors s c.args.factors.now) i c.args.ahead)
    (share_none c.args.sink.now s c.args.factors.now i c.args.ahead
    (not_given c.width.result s c.args.ahead c.frame_values-given.result c.args.values.now c.frame_values-given.new.out gives c.if-given-eq0.true (omega (arith, c.requires.inside, c.requires.near))))

pub returns-clause-sums : goal.returns-clause-sums
returns-clause-sums g c = λ i fed.
    let s = c.args.stream.now.stream in
    let gives = c.frame_values-given.ensures.values 1 (omega (arith, c.requires.size, c.requires.fed)) in
    c.put.ensures.sums i c.args.ahead (omega (arith, fed, c.requires.channels)) c.requires.inside
    ∙ ap (λ (x : ℤ). kept_at c.args.cache.now i c.args.ahead +ℤ x)
    (part_is_share c.args.sink.now s c.width.result c.frame_values-given.new.out c.args.factors.now i c.args.ahead c.width.ensures
    (gives.values i 0 (omega (arith, fed, c.requires.fed)) (omega (arith, c.if-given-eq0.false))))

pub returns-clause-before : goal.returns-clause-before
returns-clause-before g c = λ i k fed less.
    c.put.ensures.sums i k (omega (arith, fed, c.requires.channels)) (omega (arith, less, c.requires.inside))
    ∙ sym (none_added (kept_at c.args.cache.now i k) (part_at c.args.ahead 1 c.frame_values-given.new.out c.args.factors.now i k)
    (part_before c.frame_values-given.new.out c.args.factors.now i c.args.ahead k less))

pub returns-clause-after : goal.returns-clause-after
returns-clause-after g c = λ i k fed past less.
    c.put.ensures.sums i k (omega (arith, fed, c.requires.channels)) less
    ∙ sym (none_added (kept_at c.args.cache.now i k) (part_at c.args.ahead 1 c.frame_values-given.new.out c.args.factors.now i k)
    (part_after c.frame_values-given.new.out c.args.factors.now i c.args.ahead k past))

pub returns-clause-little : goal.returns-clause-little
returns-clause-little g c = λ i fed.
    let s = c.args.stream.now.stream in
    let gives = c.frame_values-given.ensures.values 1 (omega (arith, c.requires.size, c.requires.fed)) in
    subst (IsSumOf 1)
    (part_is_share c.args.sink.now s c.width.result c.frame_values-given.new.out c.args.factors.now i c.args.ahead c.width.ensures
    (gives.values i 0 (omega (arith, fed, c.requires.fed)) (omega (arith, c.if-given-eq0.false))))
    (c.put.ensures.little i (omega (arith, fed, c.requires.channels)))
