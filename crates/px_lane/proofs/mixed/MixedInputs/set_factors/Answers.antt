use Rattle.std.proofs.Common.{◌≡◌, ℕ, ◌+◌, ◌-◌, ◌*◌, ◌≤◌, List, ◌∷◌, length, length-drop, map, take, drop, refl, ap, sym, ◌∙◌, subst, arith}
use Rattle.std.proofs.lemmas.List.{take_all}
use Rattle.px_sample.specs.declared.spec.Spec.{Spec}
use Rattle.px_model.specs.Mix.{mix_of}
use Rattle.px_model.specs.Turn.{with_each_factors}
use Rattle.px_model.specs.Sink.{Input as Stands, streams_of}
use Rattle.px_msg.specs.View.{gains}
use Rattle.px_stream.specs.Samples.{samples}
use Rattle.px_lane.specs.Costs.{count_others, factors_cost}
use Rattle.px_model.specs.Message.{InputFactors as Gains}
use Rattle.px_msg.specs.declared.factors.InputFactors.{InputFactors}
use Rattle.px_lane.proofs.Feeds.{factors_suit}
use Rattle.px_lane.proofs.Reserved.{all_in}
use Rattle.px_lane.proofs.Entries.{entry_more, count_more, no_more}
use Rattle.px_lane.proofs.Costs.{more_set, factors_clipped}
use Rattle.px_lane.proofs.mixed.MixedInputs.set_factors.Goals as goal

pub set_last-count-requires : goal.set_last-count-requires
set_last-count-requires g c =
    let l = c.loop-i in
    let f : InputFactors = c.index-each-i.result in
    factors_suit c.requires.channels f.factors f.input.0 l.self.inputs (l.invariant.fed c.requires.channels c.requires.fed)
    (all_in (λ (x : Gains). length x.factors ≡ c.requires.channels) gains c.args.each.now l.i f c.loop-i-test.true c.index-each-i.is c.requires.factors)

pub loop-i-init : goal.loop-i-init
loop-i-init g c = record {
  inputs = refl;
  fed = λ channels h. h;
  count = omega arith;
  few = omega arith;
  none = λ e. refl;
  spec = refl;
  depth = refl;
  frames = refl;
  room = refl;
  block_room = refl;
  ticks = omega arith;
}

pub loop-i-preserved : goal.loop-i-preserved
loop-i-preserved g c =
    let l = c.loop-i in
    let f : InputFactors = c.index-each-i.result in
    let behind : take (length c.args.each.now - (l.i + 1)) (drop (l.i + 1) c.args.each.now) ≡ drop (l.i + 1) c.args.each.now =
    take_all (length c.args.each.now - (l.i + 1)) (drop (l.i + 1) c.args.each.now) (omega (arith, length-drop (l.i + 1) c.args.each.now)) in
    record {
      inputs = ap (λ (es : List InputFactors). with_each_factors (map gains es) c.set_last-count.new.self.inputs) (sym behind)
          ∙ c.set_last-count.ensures.inputs
          ∙ ap (λ (es : List InputFactors). with_each_factors (gains f ∷ map gains es) l.self.inputs) behind
          ∙ entry_more c.args.each.now l.i c.index-each-i.result l.self.inputs c.loop-i-test.true c.index-each-i.is ∙ l.invariant.inputs;
      fed = λ channels h. c.set_last-count.ensures.fed channels (l.invariant.fed channels h);
      count = omega (
        arith,
        c.set_last-count.ensures.count,
        ap (λ (es : List InputFactors). count_others (map gains es) c.set_last-count.new.self.inputs) behind,
        ap (λ (es : List InputFactors). count_others (gains f ∷ map gains es) l.self.inputs) behind,
        count_more c.args.each.now l.i c.index-each-i.result l.self.inputs c.loop-i-test.true c.index-each-i.is,
        l.invariant.count,
      );
      few = omega (arith, c.set_last-count.ensures.few, l.invariant.few);
      none = λ e. c.set_last-count.ensures.none (omega (arith, e)) ∙ l.invariant.none (omega (arith, e));
      spec = c.set_last-count.ensures.spec ∙ l.invariant.spec;
      depth = c.set_last-count.ensures.depth ∙ l.invariant.depth;
      frames = c.set_last-count.ensures.frames ∙ l.invariant.frames;
      room = c.set_last-count.ensures.room ∙ l.invariant.room;
      block_room = c.set_last-count.ensures.block_room ∙ l.invariant.block_room;
      ticks = more_set c.args.self.now.spec.channels c.args.self.now.frames l.count c.set_last-count.result c.args.steps.now l.steps c.set_last-count.new.steps
          (subst (λ (n : ℕ). c.set_last-count.new.steps ≤ l.steps + c.args.self.now.spec.channels * (4 * (n * c.set_last-count.result))) l.invariant.frames
          (subst (λ (s : Spec). c.set_last-count.new.steps ≤ l.steps + s.channels * (4 * (l.self.frames * c.set_last-count.result))) l.invariant.spec c.set_last-count.ensures.ticks))
          l.invariant.ticks;
    }

pub returns-then-count-gt0-clause-ticks : goal.returns-then-count-gt0-clause-ticks
returns-then-count-gt0-clause-ticks g c =
    let l = c.loop-i in
    let whole : l.count ≡ count_others (map gains c.args.each.now) c.args.self.now.inputs = omega (arith, no_more c.args.each.now l.i l.self.inputs (omega arith), l.invariant.count) in
    subst (λ (t : ℕ). l.steps + c.args.self.now.spec.channels * (c.args.self.now.frames - 0) ≤ c.args.steps.now + c.args.self.now.spec.channels * factors_cost c.args.self.now.frames t) whole
    (factors_clipped c.args.self.now.spec.channels c.args.self.now.frames l.count 0 c.args.steps.now l.steps l.invariant.ticks (λ e. absurd (omega (arith, e))))

pub returns-clause-mixes : goal.returns-clause-mixes
returns-clause-mixes g c = λ sink k less. ap (λ (xs : List Stands). mix_of samples sink (streams_of xs) k) (c.loop-i.invariant.none (omega arith))

pub returns-clause-ticks : goal.returns-clause-ticks
returns-clause-ticks g c =
    let l = c.loop-i in
    let whole : l.count ≡ count_others (map gains c.args.each.now) c.args.self.now.inputs = omega (arith, no_more c.args.each.now l.i l.self.inputs (omega arith), l.invariant.count) in
    subst (λ (t : ℕ). l.steps + c.args.self.now.spec.channels * (c.args.self.now.frames - c.frames.result) ≤ c.args.steps.now + c.args.self.now.spec.channels * factors_cost c.args.self.now.frames t) whole
    (factors_clipped c.args.self.now.spec.channels c.args.self.now.frames l.count c.frames.result c.args.steps.now l.steps l.invariant.ticks (λ e. omega (arith, c.frames.ensures, l.invariant.frames)))
