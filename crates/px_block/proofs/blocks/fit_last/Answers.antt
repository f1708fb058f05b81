use Rattle.std.proofs.Common.{◌-◌, ◌∙◌, ap}
use Rattle.std.specs.Prelude.{vec_len}
use Rattle.px_block.specs.HeldBlock.{HeldBlock}
use Rattle.px_block.proofs.PackedLemmas.{same_contents}
use Rattle.px_block.proofs.blocks.fit_last.Goals as goal

pub returns-in-Some : goal.returns-in-Some
returns-in-Some c =
    same_contents c.args.blocks.now.items (vec_len c.args.blocks.now - 1) c.fit.new.self c.in-Some.last.now
    (c.fit.ensures.bytes ∙ ap (λ (b : HeldBlock). b.bytes) c.in-Some.ensures.value)
