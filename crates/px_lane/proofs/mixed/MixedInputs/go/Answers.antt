use Rattle.std.proofs.Common.{ℕ, ◌-◌, List, ap, sym, ◌∙◌, subst}
use Rattle.std.specs.List.{AllByRecursion}
use Rattle.px_model.specs.Stream.{IsStream}
use Rattle.px_model.specs.Sink.{Input}
use Rattle.px_kept_mix.specs.Keeping.{IsKept}
use Rattle.px_kept_mix.proofs.Exchanging.{forward}
use Rattle.px_lane.specs.Mixed.{SummedInputs, CanMix}
use Rattle.px_lane.proofs.Sharing.{can_mix_gone}
use Rattle.px_lane.proofs.mixed.MixedInputs.go.Goals as goal

pub invariant_of-self : goal.invariant_of-self
invariant_of-self g c =
    let d = c.self.inside in
    let streams : AllByRecursion (λ x. IsStream (Input.stream x)) d.inputs.inputs = subst (λ (v : SummedInputs). AllByRecursion (λ x. IsStream (Input.stream x)) v.inputs) (sym c.self.view_is) c.requires.streams in (
      c.self.invariant.0,
      subst (CanMix d.spec.channels) (sym c.go.ensures.inputs) (can_mix_gone d.spec.channels c.args.frames d.inputs.inputs c.self.invariant.1),
      subst (λ (xs : List Input). IsKept d.spec xs c.advance.new.self) (sym c.go.ensures.inputs)
          (forward d.spec d.inputs.inputs c.args.frames d.kept c.advance.new.self c.self.invariant.2 streams
          (record { frames_left = c.advance.ensures.frames; channels = c.advance.ensures.channels; sums = c.advance.ensures.sums })),
      ap (λ (n : ℕ). n - c.args.frames) c.self.invariant.3 ∙ sym c.advance.ensures.frames,
    )
