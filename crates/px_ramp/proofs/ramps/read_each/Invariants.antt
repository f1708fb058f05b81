use Rattle.std.proofs.Common.{◌≡◌, take, length}
use Rattle.px_ramp.specs.RampMix.{values_at}
use Rattle.px_ramp.proofs.ramps.read_each.Given as goal

abbrev pub invariant-loop-i : goal.invariant-loop-i
invariant-loop-i l = record {
  size : length l.out ≡ length l.fn.out;
  front : take l.i l.out ≡ values_at l.frames l.at (take l.i l.ramps);
}
