use Rattle.std.proofs.Common.{sym, subst, arith}
use Rattle.px_model.specs.Sink.{IsRising}
use Rattle.px_lane.specs.Inputs.{inputs_of}
use Rattle.px_lane.proofs.Rising.{rising_without}
use Rattle.px_lane.proofs.inputs.Inputs.remove.Goals as goal

pub invariant_of-self : goal.invariant_of-self
invariant_of-self c =
    let d = c.self.inside in (
      subst IsRising (sym c.close_at.ensures.inputs) (rising_without c.args.input.0 (inputs_of d.items.items) c.self.invariant.0),
      c.close_at.ensures.room d.room d.block_room c.self.invariant.1,
      omega (arith, c.close_at.ensures.len, c.close_at.ensures.capacity, c.self.invariant.2),
    )
