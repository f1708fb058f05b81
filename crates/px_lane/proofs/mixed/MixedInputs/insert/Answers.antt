use Rattle.std.proofs.Common.{◌+◌, ◌*◌, ◌≤◌, List, false, ap, sym, ◌∙◌, subst, arith}
use Rattle.px_model.specs.Sink.{Input, stream_at, with_input}
use Rattle.px_kept_mix.specs.Keeping.{AreLittle, IsKept}
use Rattle.px_kept_mix.proofs.Exchanging.{small, one_more_small, comes}
use Rattle.px_lane.specs.Mixed.{SummedInputs, CanMix}
use Rattle.px_lane.proofs.Sharing.{roomy}
use Rattle.px_lane.proofs.Costs.{two_shares}
use Rattle.px_lane.proofs.mixed.MixedInputs.insert.Goals as goal

pub share-requires-clause-room : goal.share-requires-clause-room
share-requires-clause-room g c =
    let d = c.self.inside in
    roomy 256 d.kept (omega arith) (small d.spec d.inputs.inputs d.kept c.self.invariant.2 c.self.invariant.1.few)

pub change-requires-clause-channels : goal.change-requires-clause-channels
change-requires-clause-channels g c = c.share.ensures.large.channels ∙ c.self.invariant.2.channels

pub change-requires-clause-fed : goal.change-requires-clause-fed
change-requires-clause-fed g c = c.requires.fed ∙ sym (ap (λ (v : SummedInputs). v.spec.channels) c.self.view_is)

pub change-requires-clause-room : goal.change-requires-clause-room
change-requires-clause-room g c =
    let d = c.self.inside in
    roomy 257 c.share.new.kept (omega arith)
    (one_more_small false d.spec (stream_at c.args.input.0 d.inputs.inputs) 0 256 d.kept c.share.new.kept
    (small d.spec d.inputs.inputs d.kept c.self.invariant.2 c.self.invariant.1.few)
    c.share.ensures.large c.self.invariant.2.channels c.share.ensures.sums c.share.ensures.little)

pub invariant_of-self : goal.invariant_of-self
invariant_of-self g c =
    let d = c.self.inside in
    let i = c.args.input.0 in
    let s = c.args.stream.stream in (
      c.self.invariant.0,
      subst (CanMix d.spec.channels) (sym c.insert.ensures.inputs)
          (subst (λ (v : SummedInputs). CanMix v.spec.channels (with_input c.args.input.0 c.args.stream.stream v.inputs)) (sym c.self.view_is) c.requires.mixes),
      subst (λ (xs : List Input). IsKept d.spec xs c.change.new.self) (sym c.insert.ensures.inputs)
          (comes d.spec d.inputs.inputs c.args.input.0 c.args.stream.stream d.kept c.share.new.kept c.change.new.self c.self.invariant.2 c.share.ensures.rising
          c.share.ensures.large c.share.ensures.sums c.change.ensures.large c.change.ensures.sums
          (subst (AreLittle d.spec c.args.stream.stream 0) c.share.ensures.large.frames c.change.ensures.little)),
      c.self.invariant.3 ∙ sym (c.change.ensures.large.frames ∙ c.share.ensures.large.frames),
    )

pub returns-clause-ticks : goal.returns-clause-ticks
returns-clause-ticks g c =
    let d = c.self.inside in
    subst (λ (v : SummedInputs). c.change.new.steps ≤ c.args.steps.now + v.spec.channels * (4 * v.frames)) c.self.view_is
    (two_shares d.spec.channels d.kept.frames c.share.new.kept.frames 0 d.frames c.args.steps.now c.share.new.steps c.change.new.steps
    (omega (arith, c.self.invariant.3)) (omega (arith, c.self.invariant.3, c.share.ensures.large.frames)) c.share.ensures.ticks c.change.ensures.ticks)
