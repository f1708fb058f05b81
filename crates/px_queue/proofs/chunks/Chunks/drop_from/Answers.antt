use Rattle.std.proofs.Common.{◌<◌, ◌≤◌, ap, sym, subst, ◌∙◌, List, arith, length}
use Rattle.px_queue.specs.Pieces.{Piece, Rise, byte_at, last_of}
use Rattle.px_queue.proofs.Cutting.{shorter, front_rise, front_low}
use Rattle.px_queue.proofs.chunks.Chunks.drop_from.Goals as goal

pub loop-self-preserved : goal.loop-self-preserved
loop-self-preserved g c =
    let v : List Piece = c.loop-self.self.before in
    let some : 0 < length v = c.begins_from.ensures.some c.loop-self-test.true in
    let from : c.args.from ≤ (last_of v).at = c.begins_from.ensures.yes c.loop-self-test.true in
    record {
      before = λ to rise. subst (Rise 0 to) (sym c.drop_last.ensures.before) (front_rise 0 to v some (c.loop-self.invariant.before to rise));
      low = λ i low. ap (λ (ps : List Piece). byte_at ps i) c.drop_last.ensures.before ∙ front_low v i some (omega arith) ∙ c.loop-self.invariant.low i low;
      behind = c.drop_last.ensures.behind ∙ c.loop-self.invariant.behind;
      room = omega (arith, c.drop_last.ensures.room, c.loop-self.invariant.room);
      block_room = omega (arith, c.drop_last.ensures.block_room, c.loop-self.invariant.block_room);
      given = c.drop_last.ensures.given ∙ c.loop-self.invariant.given;
    }

pub loop-self-smaller : goal.loop-self-smaller
loop-self-smaller g c =
    let v : List Piece = c.loop-self.self.before in
    let some : 0 < length v = c.begins_from.ensures.some c.loop-self-test.true in
    omega (arith, ap (λ (ps : List Piece). length ps) c.drop_last.ensures.before, shorter v some)
