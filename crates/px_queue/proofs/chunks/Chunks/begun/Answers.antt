use Rattle.std.proofs.Common.{◌≡◌, ◌+◌, ◌-◌, ◌<◌, ◌≤◌, ◌/◌, ℕ, subst, List, arith}
use Rattle.std.specs.Prelude.{slice_index_or}
use Rattle.px_queue.specs.Pieces.{Piece}
use Rattle.px_queue.proofs.chunks.Chunks.begun.Goals as goal

pub loop-low-preserved-then-first-at : goal.loop-low-preserved-then-first-at
loop-low-preserved-then-first-at c =
    let v : List Piece = c.args.self.now.before in
    let low = c.loop-low.low in
    let high = c.loop-low.high in
    let middle : ℕ = low + (high - low) / 2 in
    let order : middle + 1 ≤ high = grind (arith, c.loop-low-test.true) in
    let next : middle ≡ (middle + 1) - 1 = omega arith in
    record {
      order = order;
      few = c.loop-low.invariant.few;
      before = λ d some. subst (λ (n : ℕ). (slice_index_or v n d).at < c.args.at) next (omega (arith, c.first.ensures.value d, c.if-first-at.true));
      behind = c.loop-low.invariant.behind;
    }
