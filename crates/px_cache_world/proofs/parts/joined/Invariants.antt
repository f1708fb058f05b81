use Rattle.std.proofs.Common.{◌≡◌, ◌++◌, drop}
use Rattle.std.specs.List.{concat}
use Rattle.px_block.specs.HeldBlock.{contents}
use Rattle.px_cache_world.proofs.parts.joined.Given as goal

-- the bytes so far and those of the blocks that are left are all of them
abbrev pub invariant-loop-block : goal.invariant-loop-block
invariant-loop-block l = l.bytes.items ++ concat (contents (drop l.block-index l.held)) ≡ concat (contents l.held)
