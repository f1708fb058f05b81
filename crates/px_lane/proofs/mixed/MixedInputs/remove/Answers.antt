use Rattle.std.proofs.Common.{◌+◌, ◌*◌, ◌≤◌, List, sym, ◌∙◌, subst, arith}
use Rattle.px_model.specs.Sink.{Input, without_input}
use Rattle.px_kept_mix.specs.Keeping.{IsKept}
use Rattle.px_kept_mix.proofs.Exchanging.{small, leaves}
use Rattle.px_lane.specs.Mixed.{SummedInputs, CanMix}
use Rattle.px_lane.proofs.Sharing.{roomy}
use Rattle.px_lane.proofs.Costs.{one_share}
use Rattle.px_lane.proofs.mixed.MixedInputs.remove.Goals as goal

pub share-requires-clause-room : goal.share-requires-clause-room
share-requires-clause-room g c =
    let d = c.self.inside in
    roomy 256 d.kept (omega arith) (small d.spec d.inputs.inputs d.kept c.self.invariant.2 c.self.invariant.1.few)

pub invariant_of-self : goal.invariant_of-self
invariant_of-self g c =
    let d = c.self.inside in (
      c.self.invariant.0,
      subst (CanMix d.spec.channels) (sym c.remove.ensures.inputs)
          (subst (λ (v : SummedInputs). CanMix v.spec.channels (without_input c.args.input.0 v.inputs)) (sym c.self.view_is) c.requires),
      subst (λ (xs : List Input). IsKept d.spec xs c.share.new.kept) (sym c.remove.ensures.inputs)
          (leaves d.spec d.inputs.inputs c.args.input.0 d.kept c.share.new.kept c.self.invariant.2 c.share.ensures.rising c.share.ensures.large c.share.ensures.sums),
      c.self.invariant.3 ∙ sym c.share.ensures.large.frames,
    )

pub returns-clause-ticks : goal.returns-clause-ticks
returns-clause-ticks g c =
    let d = c.self.inside in
    subst (λ (v : SummedInputs). c.share.new.steps ≤ c.args.steps.now + v.spec.channels * (2 * v.frames)) c.self.view_is
    (one_share d.spec.channels d.kept.frames 0 d.frames c.args.steps.now c.share.new.steps (omega (arith, c.self.invariant.3)) c.share.ensures.ticks)
