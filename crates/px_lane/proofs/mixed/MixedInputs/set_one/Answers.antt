use Rattle.std.proofs.Common.{◌≡◌, ◌+◌, ◌*◌, ◌≤◌, List, Option, Bool, false, true, cond, ap, sym, ◌∙◌, subst, arith}
use Rattle.px_model.specs.Control.{with_factors}
use Rattle.px_model.specs.Stream.{Stream}
use Rattle.px_model.specs.Sink.{Input, stream_at, with_change}
use Rattle.px_kept_mix.specs.Kept.{changed_there}
use Rattle.px_kept_mix.specs.Keeping.{AreLittleThere, SharesThere, IsKept}
use Rattle.px_kept_mix.proofs.Exchanging.{small, one_more_small, changes}
use Rattle.px_lane.specs.Mixed.{SummedInputs, CanMix}
use Rattle.px_lane.specs.Taking.{AreFed}
use Rattle.px_lane.proofs.Sharing.{roomy, sounds_there, changed_at_index, can_mix_factors}
use Rattle.px_lane.specs.Costs.{has_others}
use Rattle.px_lane.proofs.Entries.{factors_stay}
use Rattle.px_lane.proofs.Costs.{two_shares}
use Rattle.px_lane.proofs.mixed.MixedInputs.set_one.Goals as goal

pub share-requires-clause-room : goal.share-requires-clause-room
share-requires-clause-room g c =
    let d = c.self.inside in
    roomy 256 d.kept (omega arith) (small d.spec d.inputs.inputs d.kept c.self.invariant.2 c.self.invariant.1.few)

pub share-requires-2-clause-fed : goal.share-requires-2-clause-fed
share-requires-2-clause-fed g c =
    let d = c.self.inside in
    subst (AreFed d.spec.channels) (sym c.set_one.ensures.inputs) (can_mix_factors d.spec.channels c.args.factors c.args.input.0 d.inputs.inputs c.share.ensures.rising c.self.invariant.1).fed

pub share-requires-2-clause-room : goal.share-requires-2-clause-room
share-requires-2-clause-room g c =
    let d = c.self.inside in
    roomy 257 c.share.new.kept (omega arith)
    (one_more_small false d.spec (stream_at c.args.input.0 d.inputs.inputs) 0 256 d.kept c.share.new.kept
    (small d.spec d.inputs.inputs d.kept c.self.invariant.2 c.self.invariant.1.few)
    c.share.ensures.large c.self.invariant.2.channels c.share.ensures.sums c.share.ensures.little)

pub invariant_of-self : goal.invariant_of-self
invariant_of-self g c =
    let d = c.self.inside in
    let f = λ (s : Stream). with_factors s c.args.factors in
    let come : stream_at c.args.input.0 c.set_one.new.self.inputs ≡ changed_there (λ s. with_factors s c.args.factors) (stream_at c.args.input.0 d.inputs.inputs) =
    ap (λ (xs : List Input). stream_at c.args.input.0 xs) c.set_one.ensures.inputs ∙ changed_at_index c.args.input.0 (λ s. with_factors s c.args.factors) d.inputs.inputs in (
      c.self.invariant.0,
      subst (CanMix d.spec.channels) (sym c.set_one.ensures.inputs) (can_mix_factors d.spec.channels c.args.factors c.args.input.0 d.inputs.inputs c.share.ensures.rising c.self.invariant.1),
      subst (λ (xs : List Input). IsKept d.spec xs c.share-2.new.kept) (sym c.set_one.ensures.inputs)
          (changes d.spec d.inputs.inputs c.args.input.0 0 (λ s. with_factors s c.args.factors) d.kept c.share.new.kept c.share-2.new.kept
          c.self.invariant.2 c.share.ensures.rising (sounds_there 0 (λ s. with_factors s c.args.factors) (stream_at c.args.input.0 d.inputs.inputs) (λ k s less at. absurd (omega (arith, less))))
          c.share.ensures.large c.share.ensures.sums c.share-2.ensures.large
          (subst (λ (o : Option Stream). SharesThere true d.spec o 0 c.share.new.kept c.share-2.new.kept) come c.share-2.ensures.sums)
          (subst (AreLittleThere d.spec (changed_there (λ s. with_factors s c.args.factors) (stream_at c.args.input.0 d.inputs.inputs)) 0) c.share.ensures.large.frames
          (subst (λ (o : Option Stream). AreLittleThere d.spec o 0 c.share.new.kept.frames) come c.share-2.ensures.little))),
      c.self.invariant.3 ∙ sym (c.share-2.ensures.large.frames ∙ c.share.ensures.large.frames),
    )

pub returns-clause-inputs : goal.returns-clause-inputs
returns-clause-inputs g c = c.set_one.ensures.inputs ∙ ap (λ (v : SummedInputs). with_change c.args.input.0 (λ s. with_factors s c.args.factors) v.inputs) c.self.view_is

pub returns-clause-ticks : goal.returns-clause-ticks
returns-clause-ticks g c =
    let d = c.self.inside in
    subst (λ (v : SummedInputs). c.share-2.new.steps ≤ c.args.steps.now + v.spec.channels * (4 * (v.frames * 1))) c.self.view_is
    (two_shares d.spec.channels d.kept.frames c.share.new.kept.frames 0 (d.frames * 1) c.args.steps.now c.share.new.steps c.share-2.new.steps
    (omega (arith, c.self.invariant.3)) (omega (arith, c.self.invariant.3, c.share.ensures.large.frames)) c.share.ensures.ticks c.share-2.ensures.ticks)

pub returns-clause-none : goal.returns-clause-none
returns-clause-none g c = λ none. absurd (omega (arith, none))

pub returns-clause-count : goal.returns-clause-count
returns-clause-count g c =
    let others : has_others c.args.factors (stream_at c.args.input.0 c.args.self.now.inputs) ≡ true =
    ap (λ (v : SummedInputs). has_others c.args.factors (stream_at c.args.input.0 v.inputs)) (sym c.self.view_is) ∙ sym c.has_others.ensures.others ∙ c.if-not-has_others.false in
    sym (ap (λ (b : Bool). cond b 1 0) others)

pub returns-then-not-has_others-clause-inputs : goal.returns-then-not-has_others-clause-inputs
returns-then-not-has_others-clause-inputs g c =
    let d = c.self.inside in
    ap (λ (v : SummedInputs). v.inputs) (sym c.self.view_is)
    ∙ sym (factors_stay c.args.factors c.args.input.0 d.inputs.inputs c.has_others.ensures.rising (sym c.has_others.ensures.others ∙ c.if-not-has_others.true))
    ∙ ap (λ (v : SummedInputs). with_change c.args.input.0 (λ s. with_factors s c.args.factors) v.inputs) c.self.view_is
