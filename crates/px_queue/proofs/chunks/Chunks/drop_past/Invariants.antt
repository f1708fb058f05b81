use Rattle.std.proofs.Common.{◌≡◌, ◌≤◌, ℕ, length}
use Rattle.px_block.specs.Given.{after_giving}
use Rattle.px_queue.specs.Laid.{TOP}
use Rattle.px_queue.specs.Pieces.{Rise, byte_at}
use Rattle.px_queue.proofs.chunks.Chunks.drop_past.Given as goal

abbrev pub invariant-loop-self : goal.invariant-loop-self
invariant-loop-self g l = record {
  rising : Rise 0 TOP l.self.before;
  bytes : (i : ℕ) → l.fn.from ≤ i → byte_at l.self.before i ≡ byte_at l.fn.self.before i;
  behind : l.self.behind ≡ l.fn.self.behind;
  room : l.fn.self.room ≤ l.self.room;
  block_room : l.fn.self.block_room ≤ l.self.block_room;
  given : after_giving (g.B.BlockSource.given l.source) l.self.blocks ≡ after_giving (g.B.BlockSource.given l.fn.source) l.fn.self.blocks;
}

abbrev pub decreases-loop-self : goal.decreases-loop-self
decreases-loop-self g l = length l.self.before
