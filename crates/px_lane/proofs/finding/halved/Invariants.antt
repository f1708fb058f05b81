use Rattle.std.proofs.Common.{◌-◌, ◌<◌, ◌≤◌, length}
use Rattle.std.specs.Prelude.{slice_index_or}
use Rattle.px_lane.specs.declared.input.Input.{Input}
use Rattle.px_lane.specs.Places.{AreBelow}
use Rattle.px_lane.proofs.finding.halved.Given as goal

abbrev pub invariant-loop-low : goal.invariant-loop-low
invariant-loop-low l =
    (l.low ≤ l.high) × (l.high ≤ length l.inputs) × AreBelow l.index.0 l.low l.inputs
    × ((d : Input) → l.high < length l.inputs → l.index.0 ≤ (Input.index (slice_index_or l.inputs l.high d)).0)

abbrev pub decreases-loop-low : goal.decreases-loop-low
decreases-loop-low l = l.high - l.low
