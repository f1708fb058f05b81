use Rattle.std.proofs.Common.{◌≡◌, ℕ, ◌-◌, ◌∙◌, ◌<◌, List, length, take, min, ap, sym, subst, arith}
use Rattle.std.specs.List.{concat}
use Rattle.std.proofs.lemmas.Grind.{common_steps}
use Rattle.px_block.specs.HeldBlock.{HeldBlock, contents}
use Rattle.px_block.specs.Packed.{IsPacked}
use Rattle.px_block.proofs.PackedLemmas.{contents_last, concat-after_put, packed-after_put, room-of_last}
use Rattle.px_block.proofs.blocks.Blocks.put.Goals as goal

pub invariant_of-self-2 : goal.invariant_of-self-2
invariant_of-self-2 g c =
    let some : 0 < length c.args.bytes.now = grind (arith, common_steps) in
    let last = c.in_ok-last.last in
    let room : last.room ≡ 65536 - length last.bytes = omega (arith, c.in_ok-last.ensures.open) in
    subst (λ (bs : List HeldBlock). IsPacked (contents bs)) (sym c.push_reserved.ensures.items)
    (subst IsPacked (sym (contents_last c.take_open.new.blocks.items c.put-count.new.self))
    (packed-after_put (contents c.take_open.new.blocks.items) last.bytes c.args.bytes.now c.put-count.new.self.bytes c.put-count.result
    c.in_ok-last.ensures.full c.in_ok-last.ensures.partial some (c.put-count.ensures.count ∙ ap (λ (n : ℕ). min (length c.args.bytes.now) n) room) c.put-count.ensures.bytes))

pub returns-clause-count : goal.returns-clause-count
returns-clause-count g c =
    let last = c.in_ok-last.last in
    let room : last.room ≡ 65536 - length last.bytes = omega (arith, c.in_ok-last.ensures.open) in
    c.put-count.ensures.count
    ∙ ap (λ (n : ℕ). min (length c.args.bytes.now) n)
    (room ∙ room-of_last (contents c.take_open.new.blocks.items) last.bytes c.args.self.now
    c.in_ok-last.ensures.full c.in_ok-last.ensures.partial (c.in_ok-last.ensures.bytes ∙ c.self.view_is))

pub returns-clause-bytes : goal.returns-clause-bytes
returns-clause-bytes g c =
    ap (λ (bs : List HeldBlock). concat (contents bs)) c.push_reserved.ensures.items
    ∙ ap concat (contents_last c.take_open.new.blocks.items c.put-count.new.self)
    ∙ concat-after_put (contents c.take_open.new.blocks.items) c.in_ok-last.last.bytes c.put-count.new.self.bytes c.args.self.now (take c.put-count.result c.args.bytes.now)
    (c.in_ok-last.ensures.bytes ∙ c.self.view_is) c.put-count.ensures.bytes
