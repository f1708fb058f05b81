use Rattle.std.proofs.Common.{◌≡◌, ◌+◌, length, drop}
use Rattle.std.specs.List.{concat}
use Rattle.px_block.specs.HeldBlock.{contents}
use Rattle.px_block.proofs.blocks.len_of.Given as goal

-- the bytes so far and those of the blocks that are left are all of them
abbrev pub invariant-loop-block : goal.invariant-loop-block
invariant-loop-block l = l.len + length (concat (contents (drop l.block-index l.blocks))) ≡ length (concat (contents l.blocks))
