use Rattle.std.proofs.Common.{◌≡◌, ℕ, List, length, arith, ap, ◌∙◌}
use Rattle.std.specs.List.{concat}
use Rattle.std.specs.Prelude.{vec_len}
use Rattle.px_block.specs.Given.{after_giving, blocks_for}
use Rattle.px_block.specs.HeldBlock.{contents}
use Rattle.px_block.proofs.PackedLemmas.{packed-count, length_contents}
use Rattle.px_block.proofs.blocks.Blocks.give_back.Goals as goal

pub returns : goal.returns
returns g c =
    let blocks = c.self.inside.blocks in
    let count : vec_len blocks ≡ blocks_for (length (concat (contents blocks.items))) = omega (arith, blocks.ok.0, length_contents blocks.items, packed-count (contents blocks.items) c.self.invariant) in
    c.give_all.ensures
    ∙ ap (λ (n : ℕ). after_giving (g.B.BlockSource.given c.args.source.now) n) count
    ∙ ap (λ (bytes : List ℕ). after_giving (g.B.BlockSource.given c.args.source.now) (blocks_for (length bytes))) c.self.view_is
