use Rattle.std.proofs.Common.{◌≡◌, ap, sym, ◌∙◌, List, arith, length}
use Rattle.px_block.specs.Shelved.{Shelves}
use Rattle.px_queue.specs.Laid.{Laid, Chunked}
use Rattle.px_queue.specs.Pieces.{Piece}
use Rattle.px_queue.proofs.Tied.{nothing_tied}
use Rattle.px_queue.proofs.Numbered.{some_pieces}
use Rattle.px_queue.proofs.chunks.Chunks.is_empty.Goals as goal

pub returns-clause-blocks : goal.returns-clause-blocks
returns-clause-blocks c =
    let s : Shelves = c.self.inside.shelf in
    let items : List Laid = c.self.inside.list.before in
    let ys : List Laid = c.self.inside.list.behind in
    λ yes none.
    let first : length items ≡ 0 = grind (arith, c.is_empty.ensures, yes) in
    let rest : length ys ≡ 0 = some_pieces s ys c.args.self.now.behind (ap (λ (k : Chunked). k.behind) c.self.view_is) ∙ ap (λ (ps : List Piece). length ps) none in
    sym (ap (λ (k : Chunked). k.blocks) c.self.view_is) ∙ nothing_tied s items ys c.self.invariant.0 first rest
