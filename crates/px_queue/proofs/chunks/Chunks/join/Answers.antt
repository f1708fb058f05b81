use Rattle.std.proofs.Common.{◌≡◌, ◌+◌, ap, sym, subst, ◌∙◌, List, ◌++◌, arith, length, length-append}
use Rattle.std.proofs.lemmas.List.{map-append, append-nil}
use Rattle.px_block.specs.Shelved.{Shelves}
use Rattle.px_queue.specs.Laid.{Laid, Chunked, IsTied, pieces_of, piece_of}
use Rattle.px_queue.specs.Pieces.{Piece}
use Rattle.px_queue.proofs.chunks.Chunks.join.Goals as goal

pub invariant_of-self : goal.invariant_of-self
invariant_of-self c =
    let s : Shelves = c.self.inside.shelf in
    let items : List Laid = c.self.inside.list.before in
    let ys : List Laid = c.self.inside.list.behind in
    let v : List Piece = c.args.self.now.before in
    let u : List Piece = c.args.self.now.behind in
    let is : pieces_of s items ≡ v = ap (λ (k : Chunked). k.before) c.self.view_is in
    let rest : pieces_of s ys ≡ u = ap (λ (k : Chunked). k.behind) c.self.view_is in
    let same : c.join.new.self.before ++ c.join.new.self.behind ≡ items ++ ys =
    ap (λ (zs : List Laid). c.join.new.self.before ++ zs) c.join.ensures.behind ∙ append-nil c.join.new.self.before ∙ c.join.ensures.before in
    let long : length c.join.new.self.before + length c.join.new.self.behind ≡ length items + length ys =
    omega (arith, ap length same, length-append c.join.new.self.before c.join.new.self.behind, length-append items ys) in
    (subst (IsTied s) (sym same) c.self.invariant.0, omega (arith, c.self.invariant.1, long, c.join.ensures.capacity))

pub returns-clause-before : goal.returns-clause-before
returns-clause-before c =
    let s : Shelves = c.self.inside.shelf in
    let items : List Laid = c.self.inside.list.before in
    let ys : List Laid = c.self.inside.list.behind in
    let v : List Piece = c.args.self.now.before in
    let u : List Piece = c.args.self.now.behind in
    let is : pieces_of s items ≡ v = ap (λ (k : Chunked). k.before) c.self.view_is in
    let rest : pieces_of s ys ≡ u = ap (λ (k : Chunked). k.behind) c.self.view_is in
    ap (pieces_of s) c.join.ensures.before ∙ map-append (piece_of s) items ys
    ∙ ap (λ (ps : List Piece). ps ++ pieces_of s ys) is ∙ ap (λ (ps : List Piece). v ++ ps) rest

pub returns-clause-rest : goal.returns-clause-rest
returns-clause-rest c = ap (pieces_of c.self.inside.shelf) c.join.ensures.behind

pub returns-clause-room : goal.returns-clause-room
returns-clause-room c =
    let s : Shelves = c.self.inside.shelf in
    let items : List Laid = c.self.inside.list.before in
    let ys : List Laid = c.self.inside.list.behind in
    let v : List Piece = c.args.self.now.before in
    let u : List Piece = c.args.self.now.behind in
    let is : pieces_of s items ≡ v = ap (λ (k : Chunked). k.before) c.self.view_is in
    let rest : pieces_of s ys ≡ u = ap (λ (k : Chunked). k.behind) c.self.view_is in
    let same : c.join.new.self.before ++ c.join.new.self.behind ≡ items ++ ys =
    ap (λ (zs : List Laid). c.join.new.self.before ++ zs) c.join.ensures.behind ∙ append-nil c.join.new.self.before ∙ c.join.ensures.before in
    let long : length c.join.new.self.before + length c.join.new.self.behind ≡ length items + length ys =
    omega (arith, ap length same, length-append c.join.new.self.before c.join.new.self.behind, length-append items ys) in
    omega (arith, long, c.join.ensures.capacity, ap (λ (k : Chunked). k.room) c.self.view_is)
