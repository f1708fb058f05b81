use Rattle.std.proofs.Common.{◌≤◌, ◌<◌, ◌-◌, length}
use Rattle.std.specs.Prelude.{slice_index_or}
use Rattle.px_queue.specs.Pieces.{Piece}
use Rattle.px_queue.proofs.chunks.Chunks.begun.Given as goal

abbrev pub invariant-loop-low : goal.invariant-loop-low
invariant-loop-low l = record {
  order : l.low ≤ l.high;
  few : l.high ≤ length l.self.before;
  before : (d : Piece) → 0 < l.low → (slice_index_or l.self.before (l.low - 1) d).at < l.at;
  behind : (d : Piece) → l.high < length l.self.before → l.at ≤ (slice_index_or l.self.before l.high d).at;
}

abbrev pub decreases-loop-low : goal.decreases-loop-low
decreases-loop-low l = l.high - l.low
