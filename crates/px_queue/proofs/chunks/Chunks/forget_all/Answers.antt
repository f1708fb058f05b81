use Rattle.std.proofs.Common.{◌<◌, ap, List, arith, length}
use Rattle.px_queue.specs.Pieces.{Piece}
use Rattle.px_queue.proofs.Cutting.{shorter}
use Rattle.px_queue.proofs.chunks.Chunks.forget_all.Goals as goal

pub loop-self-smaller : goal.loop-self-smaller
loop-self-smaller g c =
    let v : List Piece = c.loop-self.self.before in
    let some : 0 < length v = c.is_empty.ensures.no c.loop-self-test.true in
    omega (arith, ap (λ (ps : List Piece). length ps) c.drop_last.ensures.before, shorter v some)
