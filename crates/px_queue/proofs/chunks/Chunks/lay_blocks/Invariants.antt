use Rattle.std.proofs.Common.{◌≡◌, ◌≤◌, ℕ, ◌+◌, ◌-◌, length, take, drop}
use Rattle.std.specs.List.{concat}
use Rattle.px_block.specs.HeldBlock.{contents}
use Rattle.px_queue.specs.Pieces.{Rise, byte_at, byte_in, first_of}
use Rattle.px_queue.proofs.chunks.Chunks.lay_blocks.Given as goal

abbrev pub invariant-loop-block : goal.invariant-loop-block
invariant-loop-block l = record {
  next : l.fn.at ≤ l.next;
  left : drop (l.next - l.fn.at) (concat (contents l.fn.blocks.items)) ≡ concat (contents l.blocks.items);
  within : l.next - l.fn.at ≤ length (concat (contents l.fn.blocks.items));
  rising : Rise 0 l.next l.self.before;
  bytes : (i : ℕ) → byte_at l.self.before i ≡ first_of (byte_at l.fn.self.before i) (byte_in (record { at = l.fn.at; bytes = take (l.next - l.fn.at) (concat (contents l.fn.blocks.items)) }) i);
  behind : l.self.behind ≡ l.fn.self.behind;
  blocks : l.self.blocks + length l.blocks.items ≡ l.fn.self.blocks + length l.fn.blocks.items;
  room : l.fn.self.room + length l.blocks.items ≤ l.self.room + length l.fn.blocks.items;
  block_room : l.fn.self.block_room + length l.blocks.items ≤ l.self.block_room + length l.fn.blocks.items;
}

abbrev pub decreases-loop-block : goal.decreases-loop-block
decreases-loop-block l = length l.blocks.items
