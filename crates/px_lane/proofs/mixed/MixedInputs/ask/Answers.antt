use Rattle.std.proofs.Common.{List, refl, sym, subst}
use Rattle.px_model.specs.Sink.{Input}
use Rattle.px_model.specs.Turn.{asked_stream}
use Rattle.px_kept_mix.specs.Keeping.{IsKept}
use Rattle.px_kept_mix.proofs.Exchanging.{asked}
use Rattle.px_lane.specs.Mixed.{CanMix}
use Rattle.px_lane.proofs.Sharing.{can_mix_each}
use Rattle.px_lane.proofs.mixed.MixedInputs.ask.Goals as goal

pub invariant_of-self : goal.invariant_of-self
invariant_of-self c =
    let d = c.self.inside in (
      c.self.invariant.0,
      subst (CanMix d.spec.channels) (sym c.ask.ensures.inputs) (can_mix_each d.spec.channels (asked_stream c.args.mixed) (λ s. refl) d.inputs.inputs c.self.invariant.1),
      subst (λ (xs : List Input). IsKept d.spec xs d.kept) (sym c.ask.ensures.inputs) (asked d.spec d.inputs.inputs c.args.mixed d.kept c.self.invariant.2),
      c.self.invariant.3,
    )
