use Rattle.std.proofs.Common.{◌∙◌, arith}
use Rattle.px_lane.proofs.Sharing.{none_kept}
use Rattle.px_lane.proofs.mixed.MixedInputs.drop_unplayed.Goals as goal

pub invariant_of-self : goal.invariant_of-self
invariant_of-self c =
    let d = c.self.inside in (
      c.self.invariant.0,
      c.self.invariant.1,
      none_kept d.spec d.inputs.inputs c.advance.new.self (c.advance.ensures.channels ∙ c.self.invariant.2.channels) (omega (arith, c.advance.ensures.frames, c.self.invariant.3)),
      omega (arith, c.advance.ensures.frames, c.self.invariant.3),
    )
