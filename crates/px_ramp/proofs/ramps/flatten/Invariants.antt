use Rattle.std.proofs.Common.{◌≡◌, take, map, length}
use Rattle.px_ramp.specs.Ramp.{flat}
use Rattle.px_ramp.proofs.ramps.flatten.Given as goal

abbrev pub invariant-loop-i : goal.invariant-loop-i
invariant-loop-i l = record {
  size : length l.ramps ≡ length l.fn.ramps;
  front : take l.i l.ramps ≡ map flat (take l.i l.factors);
}
