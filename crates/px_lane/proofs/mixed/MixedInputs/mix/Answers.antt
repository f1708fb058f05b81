use Rattle.std.proofs.Common.{◌+◌, ◌-◌, ◌*◌, ◌≤◌, List, length, ap, sym, ◌∙◌, subst, arith}
use Rattle.px_msg.specs.View.{sample_spec}
use Rattle.px_model.specs.Sink.{Input}
use Rattle.px_stream.specs.Samples.{samples}
use Rattle.px_kept_mix.specs.Kept.{AreKept}
use Rattle.px_mixcache.specs.Cache.{kept_at}
use Rattle.px_kept_mix.specs.Keeping.{IsKept}
use Rattle.px_lane.proofs.Growing.{extended_kept}
use Rattle.px_lane.specs.Mixed.{SummedInputs, CanMix}
use Rattle.px_lane.proofs.Costs.{grown, as_many}
use Rattle.px_lane.proofs.mixed.MixedInputs.mix.Goals as goal

pub add_each-requires-clause-mixes : goal.add_each-requires-clause-mixes
add_each-requires-clause-mixes g c = subst (CanMix c.self.inside.spec.channels) (sym c.as_slice.ensures) c.self.invariant.1

pub add_each-requires-clause-before : goal.add_each-requires-clause-before
add_each-requires-clause-before g c =
    let d = c.self.inside in
    subst (λ (xs : List Input). AreKept samples (sample_spec d.spec) d.frames xs (kept_at c.extend.new.self)) (sym c.as_slice.ensures)
    (extended_kept d.spec d.inputs.inputs d.frames d.kept c.extend.new.self c.self.invariant.3 c.self.invariant.2 c.extend.ensures.sums)

pub add_each-requires-clause-nothing : goal.add_each-requires-clause-nothing
add_each-requires-clause-nothing g c = λ i k fed high less. c.extend.ensures.nothing i k (omega (arith, fed, c.self.invariant.2.channels)) (omega (arith, high, c.self.invariant.3))

pub invariant_of-self : goal.invariant_of-self
invariant_of-self g c =
    let d = c.self.inside in (
      c.self.invariant.0,
      c.self.invariant.1,
      subst (λ (xs : List Input). IsKept d.spec xs c.add_each.new.kept) c.as_slice.ensures c.add_each.ensures.kept,
      sym (c.add_each.ensures.large.frames ∙ c.extend.ensures.frames),
    )

pub returns-clause-ticks : goal.returns-clause-ticks
returns-clause-ticks g c =
    let d = c.self.inside in
    subst (λ (v : SummedInputs). c.add_each.new.steps ≤ c.args.steps.now + length v.inputs * (2 * (v.spec.channels * (c.args.to - v.frames)))) c.self.view_is
    (grown (length c.as_slice.result.now) (length d.inputs.inputs) d.spec.channels c.extend.new.self.frames c.args.to d.frames c.args.steps.now c.add_each.new.steps
    (as_many c.as_slice.result.now ∙ ap (λ (xs : List Input). length xs) c.as_slice.ensures) c.extend.ensures.frames c.add_each.ensures.ticks)
