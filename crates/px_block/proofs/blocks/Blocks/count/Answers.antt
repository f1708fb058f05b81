use Rattle.std.proofs.Common.{arith}
use Rattle.px_block.proofs.PackedLemmas.{packed-count, length_contents}
use Rattle.px_block.proofs.blocks.Blocks.count.Goals as goal

pub returns : goal.returns
returns c = rw (← c.self.view_is) (omega (arith, c.self.inside.blocks.ok.0, length_contents c.self.inside.blocks.items, packed-count _ c.self.invariant))
