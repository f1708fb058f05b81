use Rattle.std.proofs.Common.{sym, subst, arith}
use Rattle.px_lane.specs.Mixed.{CanMix}
use Rattle.px_lane.proofs.Sharing.{none_kept}
use Rattle.px_lane.proofs.mixed.MixedInputs.new.Goals as goal

pub invariant_of-result : goal.invariant_of-result
invariant_of-result c = (
  c.requires.mixed,
  subst (CanMix c.args.spec.channels) (sym c.new.ensures) (record { fed = tt; few = omega arith }),
  none_kept c.args.spec c.new.result.inputs c.in_ok-new.field-0 c.in_ok-new.ensures.channels c.in_ok-new.ensures.frames,
  sym c.in_ok-new.ensures.frames,
)
