use Rattle.std.proofs.Common.{◌≡◌, ◌-◌, ap, sym, ◌∙◌, List, arith, length, suc}
use Rattle.px_queue.specs.Pieces.{Piece, last_of}
use Rattle.px_queue.proofs.Bytes.{last_get}
use Rattle.px_queue.proofs.chunks.Chunks.last_first.Goals as goal

pub returns : goal.returns
returns c =
    let v : List Piece = c.args.self.now.before in
    let n : length v ≡ suc (c.len.result - 1) = omega (arith, c.len.ensures, c.requires) in
    c.first.ensures.value (last_of v) ∙ ap Piece.at (sym (last_get v (c.len.result - 1) (last_of v) n))
