use Rattle.std.proofs.Common.{◌≤◌, ◌<◌, ◌-◌, length, take}
use Rattle.std.specs.Prelude.{slice_index_or}
use Rattle.px_queue.specs.Pieces.{Piece, end_of, Rise}
use Rattle.px_queue.proofs.chunks.Chunks.halved.Given as goal

abbrev pub invariant-loop-low : goal.invariant-loop-low
invariant-loop-low l = record {
  order : l.low ≤ l.high;
  few : l.high ≤ length l.self.before;
  before : Rise 0 l.from (take l.low l.self.before);
  behind : (d : Piece) → l.high < length l.self.before → l.from < end_of (slice_index_or l.self.before l.high d);
}

abbrev pub decreases-loop-low : goal.decreases-loop-low
decreases-loop-low l = l.high - l.low
