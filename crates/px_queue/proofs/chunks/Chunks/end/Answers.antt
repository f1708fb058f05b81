use Rattle.std.proofs.Common.{◌≡◌, ◌<◌, ap, ◌∙◌, List, arith, length}
use Rattle.std.specs.Prelude.{slice_index_or}
use Rattle.px_block.specs.Shelved.{Shelves}
use Rattle.px_queue.specs.Laid.{Laid, Chunked, IsOn, pieces_of, piece_of}
use Rattle.px_queue.specs.Pieces.{Piece, end_of}
use Rattle.px_queue.proofs.Tied.{long_piece, all_left}
use Rattle.px_queue.proofs.Numbered.{some_pieces, piece_get, on_get}
use Rattle.px_queue.proofs.chunks.Chunks.end.Goals as goal

pub returns-clause-value : goal.returns-clause-value
returns-clause-value c =
    let s : Shelves = c.self.inside.shelf in
    let items : List Laid = c.self.inside.list.before in
    let ys : List Laid = c.self.inside.list.behind in
    let v : List Piece = c.args.self.now.before in
    let is : pieces_of s items ≡ v = ap (λ (k : Chunked). k.before) c.self.view_is in
    let w : Laid = c.get.result in
    let few : c.args.k < length items = omega (arith, some_pieces s items v is, c.requires) in
    let on : IsOn s w = on_get s items c.args.k w (all_left (IsOn s) items ys c.self.invariant.0.on) few c.get.ensures in
    λ d. c.end.ensures.value ∙ (let long : length (Piece.bytes (piece_of s w)) ≡ w.len = long_piece s w on in
    let same : end_of (piece_of s w) ≡ end_of (slice_index_or v c.args.k d) = ap end_of (piece_get s items c.args.k w v d is few c.get.ensures) in
    omega arith)
