use Rattle.std.proofs.Common.{◌≡◌, List, length, sym, ◌∙◌, ap, subst, arith}
use Rattle.std.proofs.lemmas.Grind.{common_steps}
use Rattle.px_block.specs.HeldBlock.{HeldBlock, contents}
use Rattle.px_block.specs.Packed.{IsPacked, AreFull}
use Rattle.px_block.proofs.PackedLemmas.{contents_last, length_contents, full-before_last, full-with_last, last-fits, full-none}
use Rattle.px_block.proofs.blocks.take_partial.Goals as goal

pub returns-then-is_empty-clause-full : goal.returns-then-is_empty-clause-full
returns-then-is_empty-clause-full c =
    let none : length c.args.blocks.now.items ≡ 0 = grind (arith, common_steps, c.args.blocks.now.ok.0) in
    full-none (contents c.args.blocks.now.items) (length_contents c.args.blocks.now.items ∙ none)

pub returns-then-bytes-lt-BLOCK_SIZE-clause-full : goal.returns-then-bytes-lt-BLOCK_SIZE-clause-full
returns-then-bytes-lt-BLOCK_SIZE-clause-full c =
    full-before_last (contents c.take_last-last.new.self.items) c.take_last-last.result.bytes
    (subst IsPacked (contents_last c.take_last-last.new.self.items c.take_last-last.result) (subst (λ (bs : List HeldBlock). IsPacked (contents bs)) c.take_last-last.ensures.items c.requires))

pub returns-clause-full : goal.returns-clause-full
returns-clause-full c =
    let left = c.take_last-last.new.self.items in
    let last = c.take_last-last.result in
    let packed = subst IsPacked (contents_last left last) (subst (λ (bs : List HeldBlock). IsPacked (contents bs)) c.take_last-last.ensures.items c.requires) in
    let full : length last.bytes ≡ 65536 = omega (arith, last-fits (contents left) last.bytes packed, c.if-bytes-lt-BLOCK_SIZE.false, ap length c.bytes.ensures.bytes) in
    subst (λ (bs : List HeldBlock). AreFull (contents bs)) (sym c.push_reserved.ensures.items)
    (subst AreFull (sym (contents_last left last)) (full-with_last (contents left) last.bytes (full-before_last (contents left) last.bytes packed) full))
