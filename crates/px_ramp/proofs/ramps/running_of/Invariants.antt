use Rattle.std.proofs.Common.{◌≡◌, ◌≤◌, ◌<◌, ◌+◌, ℕ, take}
use Rattle.px_ramp.specs.RampMix.{values_at}
use Rattle.px_ramp.proofs.ramps.running_of.Given as goal

-- the first ramps stand after them
abbrev pub invariant-loop-i : goal.invariant-loop-i
invariant-loop-i l = record {
  few : l.running ≤ l.most;
  stands : (f : ℕ) → l.at + l.running ≤ f → f < l.at + l.most → values_at l.frames f (take l.i l.ramps) ≡ take l.i l.factors;
}
