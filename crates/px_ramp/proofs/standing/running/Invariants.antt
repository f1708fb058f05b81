use Rattle.std.proofs.Common.{◌≤◌, ◌<◌, ◌+◌, ℕ, take}
use Rattle.std.specs.List.{AllByRecursion}
use Rattle.px_lane.specs.Inputs.{inputs_of}
use Rattle.px_ramp.specs.RampMix.{StandAt}
use Rattle.px_ramp.proofs.standing.running.Given as goal

-- the ramps of the first inputs stand after them
abbrev pub invariant-loop-input : goal.invariant-loop-input
invariant-loop-input l = record {
  few : l.running ≤ l.most;
  stands : (f : ℕ) → l.at + l.running ≤ f → f < l.at + l.most → AllByRecursion (StandAt l.frames f l.table.ramps) (inputs_of (take l.input-index l.inputs));
}
