use Rattle.std.proofs.Common.{◌≡◌, ◌+◌, ◌-◌, ℕ, ap, sym, subst, ◌∙◌, List, [], ◌++◌, arith, take, drop, length, length-drop, take_all}
use Rattle.std.specs.List.{concat}
use Rattle.px_block.specs.HeldBlock.{HeldBlock, contents}
use Rattle.px_queue.specs.Pieces.{Piece, Rise, byte_at, byte_in, first_of}
use Rattle.px_queue.proofs.Laying.{next_left, next_within, laid_bytes, laid_rise, no_bytes}
use Rattle.px_queue.proofs.chunks.Chunks.lay_blocks.Goals as goal

pub lay-requires-clause-top : goal.lay-requires-clause-top
lay-requires-clause-top c =
    let all : List ℕ = concat (contents c.args.blocks.items) in
    let b : List ℕ = c.in-Some.block.bytes in
    let r : List ℕ = concat (contents c.pop_front.new.self.items) in
    let n : ℕ = c.loop-block.next - c.args.at in
    let is : c.loop-block.next ≡ c.args.at + n = omega (arith, c.loop-block.invariant.next) in
    let e : drop n all ≡ b ++ r = c.loop-block.invariant.left ∙ ap (λ (bs : List HeldBlock). concat (contents bs)) c.in-Some.ensures.items in
    omega (arith, next_within all b r n c.loop-block.invariant.within e, c.requires.top)

pub loop-block-preserved : goal.loop-block-preserved
loop-block-preserved c =
    let all : List ℕ = concat (contents c.args.blocks.items) in
    let b : List ℕ = c.in-Some.block.bytes in
    let r : List ℕ = concat (contents c.pop_front.new.self.items) in
    let n : ℕ = c.loop-block.next - c.args.at in
    let is : c.loop-block.next ≡ c.args.at + n = omega (arith, c.loop-block.invariant.next) in
    let e : drop n all ≡ b ++ r = c.loop-block.invariant.left ∙ ap (λ (bs : List HeldBlock). concat (contents bs)) c.in-Some.ensures.items in
    let len : length c.bytes-len.result.now ≡ length b = ap (λ (bs : List ℕ). length bs) c.bytes-len.ensures.bytes in
    let more : c.loop-block.next + length c.bytes-len.result.now - c.args.at ≡ n + length b = omega (arith, c.loop-block.invariant.next) in
    record {
      next = omega (arith, c.loop-block.invariant.next);
      left = ap (λ (m : ℕ). drop m all) more ∙ next_left all b r n c.loop-block.invariant.within e;
      within = omega (arith, next_within all b r n c.loop-block.invariant.within e);
      rising = subst (λ (m : ℕ). Rise 0 (c.loop-block.next + m) c.lay.new.self.before) (sym len)
          (subst (Rise 0 (c.loop-block.next + length b)) (sym c.lay.ensures.before) (laid_rise c.loop-block.self.before c.loop-block.next b c.loop-block.invariant.rising));
      bytes = λ i. ap (λ (ps : List Piece). byte_at ps i) c.lay.ensures.before
          ∙ laid_bytes (byte_at c.args.self.now.before i) c.loop-block.self.before c.args.at c.loop-block.next i all b r n c.loop-block.invariant.within e is (c.loop-block.invariant.bytes i)
          ∙ ap (λ (m : ℕ). first_of (byte_at c.args.self.now.before i) (byte_in (record { at = c.args.at; bytes = take m all }) i)) (sym more);
      behind = c.lay.ensures.behind ∙ c.loop-block.invariant.behind;
      blocks = omega (arith, c.lay.ensures.blocks, c.loop-block.invariant.blocks, ap (λ (bs : List HeldBlock). length bs) c.in-Some.ensures.items);
      room = omega (arith, c.lay.ensures.room, c.loop-block.invariant.room, ap (λ (bs : List HeldBlock). length bs) c.in-Some.ensures.items);
      block_room = omega (arith, c.lay.ensures.block_room, c.loop-block.invariant.block_room, ap (λ (bs : List HeldBlock). length bs) c.in-Some.ensures.items);
    }

pub returns-clause-rising : goal.returns-clause-rising
returns-clause-rising c =
    let all : List ℕ = concat (contents c.args.blocks.items) in
    let none : length c.loop-block.blocks.items ≡ 0 = omega (arith, c.loop-block.blocks.ok.0, c.in_default.ensures.cases.0) in
    let left : drop (c.loop-block.next - c.args.at) all ≡ [] = c.loop-block.invariant.left ∙ no_bytes c.loop-block.blocks.items none in
    let end : c.loop-block.next ≡ c.args.at + length all = omega (arith, ap length left, length-drop (c.loop-block.next - c.args.at) all, c.loop-block.invariant.within, c.loop-block.invariant.next) in
    subst (λ (m : ℕ). Rise 0 m c.loop-block.self.before) end c.loop-block.invariant.rising

pub returns-clause-bytes : goal.returns-clause-bytes
returns-clause-bytes c =
    let all : List ℕ = concat (contents c.args.blocks.items) in
    let none : length c.loop-block.blocks.items ≡ 0 = omega (arith, c.loop-block.blocks.ok.0, c.in_default.ensures.cases.0) in
    let left : drop (c.loop-block.next - c.args.at) all ≡ [] = c.loop-block.invariant.left ∙ no_bytes c.loop-block.blocks.items none in
    let end : c.loop-block.next ≡ c.args.at + length all = omega (arith, ap length left, length-drop (c.loop-block.next - c.args.at) all, c.loop-block.invariant.within, c.loop-block.invariant.next) in
    λ i. c.loop-block.invariant.bytes i ∙ ap (λ (xs : List ℕ). first_of (byte_at c.args.self.now.before i) (byte_in (record { at = c.args.at; bytes = xs }) i)) (take_all (c.loop-block.next - c.args.at) all (omega (arith, end)))
