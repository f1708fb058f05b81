use Rattle.std.proofs.Common.{◌++◌, List, ℕ, sym, ◌∙◌, ap}
use Rattle.std.specs.List.{concat}
use Rattle.px_block.specs.HeldBlock.{HeldBlock, contents}
use Rattle.px_block.proofs.PackedLemmas.{contents_last, concat-last}
use Rattle.px_block.proofs.blocks.take_open.Goals as goal

pub returns-in-Ok-clause-bytes : goal.returns-in-Ok-clause-bytes
returns-in-Ok-clause-bytes g c =
    let left = c.take_partial.new.blocks.items in
    ap (λ (bytes : List ℕ). concat (contents left) ++ bytes) c.open.ensures.bytes
    ∙ sym (ap (λ (bs : List HeldBlock). concat (contents bs)) c.in-Some.ensures.items
    ∙ ap concat (contents_last left c.in-Some.last)
    ∙ concat-last (contents left) c.in-Some.last.bytes)
