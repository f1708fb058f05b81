use Rattle.std.proofs.Common.{◌≡◌, take}
use Rattle.std.specs.List.{concat}
use Rattle.px_block.specs.HeldBlock.{contents}
use Rattle.px_lane_cell.proofs.plain.bytes_of.Given as goal

abbrev pub invariant-loop-block : goal.invariant-loop-block
invariant-loop-block l = l.bytes.items ≡ concat (contents (take l.block-index l.blocks))
