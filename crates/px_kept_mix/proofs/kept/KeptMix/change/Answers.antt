use Rattle.std.proofs.Common.{◌≡◌, ℕ, ◌+◌, ◌-◌, ◌*◌, ◌≤◌, ◌∙◌, ap, subst, arith}
use Rattle.px_mixcache.specs.Cache.{KeptSums}
use Rattle.px_kept_mix.specs.Keeping.{AreLittle}
use Rattle.px_kept_mix.proofs.Spanned.{to_the_end}
use Rattle.px_kept_mix.proofs.kept.KeptMix.change.Goals as goal

pub change_between-requires-clause-order : goal.change_between-requires-clause-order
change_between-requires-clause-order g c = omega (arith, c.requires.from, c.self.invariant.0, ap (λ (v : KeptSums). v.frames) c.self.view_is)

pub change_between-requires-clause-inside : goal.change_between-requires-clause-inside
change_between-requires-clause-inside g c = omega (arith, c.self.invariant.0, ap (λ (v : KeptSums). v.frames) c.self.view_is)

pub returns-clause-sums : goal.returns-clause-sums
returns-clause-sums g c =
    to_the_end c.args.add c.args.sink.now c.args.stream.now.stream c.args.from c.self.inside.frames c.args.self.now c.change_between.new.self
    (omega (arith, c.self.invariant.0, ap (λ (v : KeptSums). v.frames) c.self.view_is)) c.change_between.ensures.sums

pub returns-clause-little : goal.returns-clause-little
returns-clause-little g c =
    subst (λ (n : ℕ). AreLittle c.args.sink.now c.args.stream.now.stream c.args.from n) (c.self.invariant.0 ∙ ap (λ (v : KeptSums). v.frames) c.self.view_is) c.change_between.ensures.little

pub returns-clause-ticks : goal.returns-clause-ticks
returns-clause-ticks g c =
    subst (λ (n : ℕ). c.change_between.new.steps ≤ c.args.steps.now + 2 * (c.args.sink.now.channels * (n - c.args.from)))
    (c.self.invariant.0 ∙ ap (λ (v : KeptSums). v.frames) c.self.view_is) c.change_between.ensures.ticks
