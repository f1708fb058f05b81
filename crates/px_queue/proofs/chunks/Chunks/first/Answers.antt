use Rattle.std.proofs.Common.{◌≡◌, ◌<◌, ap, ◌∙◌, List, arith, length}
use Rattle.px_block.specs.Shelved.{Shelves}
use Rattle.px_queue.specs.Laid.{Laid, Chunked, pieces_of}
use Rattle.px_queue.specs.Pieces.{Piece}
use Rattle.px_queue.proofs.Numbered.{some_pieces, piece_get}
use Rattle.px_queue.proofs.chunks.Chunks.first.Goals as goal

pub returns-clause-value : goal.returns-clause-value
returns-clause-value c =
    let s : Shelves = c.self.inside.shelf in
    let items : List Laid = c.self.inside.list.before in
    let ys : List Laid = c.self.inside.list.behind in
    let v : List Piece = c.args.self.now.before in
    let is : pieces_of s items ≡ v = ap (λ (k : Chunked). k.before) c.self.view_is in
    let w : Laid = c.get.result in
    let few : c.args.k < length items = omega (arith, some_pieces s items v is, c.requires) in
    λ d. c.first.ensures.value ∙ ap Piece.at (piece_get s items c.args.k w v d is few c.get.ensures)
