use Rattle.std.proofs.Common.{◌≡◌, ◌≤◌, [], length}
use Rattle.px_block.specs.Given.{after_giving}
use Rattle.px_queue.proofs.chunks.Chunks.forget_all.Given as goal

abbrev pub invariant-loop-self : goal.invariant-loop-self
invariant-loop-self g l = record {
  behind : l.self.behind ≡ [];
  room : l.fn.self.room ≤ l.self.room;
  block_room : l.fn.self.block_room ≤ l.self.block_room;
  given : after_giving (g.B.BlockSource.given l.source) l.self.blocks ≡ after_giving (g.B.BlockSource.given l.fn.source) l.fn.self.blocks;
}

abbrev pub decreases-loop-self : goal.decreases-loop-self
decreases-loop-self g l = length l.self.before
