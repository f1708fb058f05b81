use Rattle.std.proofs.Common.{◌≡◌, take}
use Rattle.px_ramp.specs.Ramp.{all_aimed}
use Rattle.px_ramp.proofs.ramps.aim_each.Given as goal

abbrev pub invariant-loop-i : goal.invariant-loop-i
invariant-loop-i l = l.ramps ≡ all_aimed l.frames l.at (take l.i l.factors) l.fn.ramps
