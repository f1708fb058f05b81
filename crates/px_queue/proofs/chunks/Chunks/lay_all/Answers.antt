use Rattle.std.proofs.Common.{◌≡◌, ap, sym, subst, ◌∙◌, List, arith, length}
use Rattle.std.specs.List.{concat}
use Rattle.px_block.specs.Given.{blocks_for}
use Rattle.px_block.specs.HeldBlock.{HeldBlock, contents}
use Rattle.px_queue.proofs.Laying.{count_by_bytes}
use Rattle.px_block.specs.Packed.{IsPacked}
use Rattle.px_queue.proofs.chunks.Chunks.lay_all.Goals as goal

pub lay_blocks-requires-clause-room : goal.lay_blocks-requires-clause-room
lay_blocks-requires-clause-room c =
    let items : List HeldBlock = c.from_vec.result.items in
    let bytes : concat (contents items) ≡ c.args.bytes = ap (λ (bs : List HeldBlock). concat (contents bs)) c.from_vec.ensures.items ∙ c.into_vec.ensures.bytes in
    let packed : IsPacked (contents items) = subst (λ (bs : List HeldBlock). IsPacked (contents bs)) (sym c.from_vec.ensures.items) c.into_vec.ensures.packed in
    let count : length items ≡ blocks_for (length c.args.bytes) = count_by_bytes items c.args.bytes packed bytes in
    omega (arith, count, c.requires.room)

pub lay_blocks-requires-clause-block_room : goal.lay_blocks-requires-clause-block_room
lay_blocks-requires-clause-block_room c =
    let items : List HeldBlock = c.from_vec.result.items in
    let bytes : concat (contents items) ≡ c.args.bytes = ap (λ (bs : List HeldBlock). concat (contents bs)) c.from_vec.ensures.items ∙ c.into_vec.ensures.bytes in
    let packed : IsPacked (contents items) = subst (λ (bs : List HeldBlock). IsPacked (contents bs)) (sym c.from_vec.ensures.items) c.into_vec.ensures.packed in
    let count : length items ≡ blocks_for (length c.args.bytes) = count_by_bytes items c.args.bytes packed bytes in
    omega (arith, count, c.requires.block_room)

pub returns-clause-blocks : goal.returns-clause-blocks
returns-clause-blocks c =
    let items : List HeldBlock = c.from_vec.result.items in
    let bytes : concat (contents items) ≡ c.args.bytes = ap (λ (bs : List HeldBlock). concat (contents bs)) c.from_vec.ensures.items ∙ c.into_vec.ensures.bytes in
    let packed : IsPacked (contents items) = subst (λ (bs : List HeldBlock). IsPacked (contents bs)) (sym c.from_vec.ensures.items) c.into_vec.ensures.packed in
    let count : length items ≡ blocks_for (length c.args.bytes) = count_by_bytes items c.args.bytes packed bytes in
    omega (arith, count, c.lay_blocks.ensures.blocks)

pub returns-clause-room : goal.returns-clause-room
returns-clause-room c =
    let items : List HeldBlock = c.from_vec.result.items in
    let bytes : concat (contents items) ≡ c.args.bytes = ap (λ (bs : List HeldBlock). concat (contents bs)) c.from_vec.ensures.items ∙ c.into_vec.ensures.bytes in
    let packed : IsPacked (contents items) = subst (λ (bs : List HeldBlock). IsPacked (contents bs)) (sym c.from_vec.ensures.items) c.into_vec.ensures.packed in
    let count : length items ≡ blocks_for (length c.args.bytes) = count_by_bytes items c.args.bytes packed bytes in
    omega (arith, count, c.lay_blocks.ensures.room)

pub returns-clause-block_room : goal.returns-clause-block_room
returns-clause-block_room c =
    let items : List HeldBlock = c.from_vec.result.items in
    let bytes : concat (contents items) ≡ c.args.bytes = ap (λ (bs : List HeldBlock). concat (contents bs)) c.from_vec.ensures.items ∙ c.into_vec.ensures.bytes in
    let packed : IsPacked (contents items) = subst (λ (bs : List HeldBlock). IsPacked (contents bs)) (sym c.from_vec.ensures.items) c.into_vec.ensures.packed in
    let count : length items ≡ blocks_for (length c.args.bytes) = count_by_bytes items c.args.bytes packed bytes in
    omega (arith, count, c.lay_blocks.ensures.block_room)
