use Rattle.std.proofs.Common.{◌≡◌, ◌+◌, ℕ, ap, sym, subst, ◌∙◌, List, ◌++◌, arith, take, drop, length, length-append, append_assoc}
use Rattle.std.proofs.lemmas.List.{map-append, take-append-drop}
use Rattle.px_block.specs.Shelved.{Shelves}
use Rattle.px_queue.specs.Laid.{Laid, Chunked, IsTied, pieces_of, piece_of}
use Rattle.px_queue.specs.Pieces.{Piece}
use Rattle.px_queue.proofs.Numbered.{some_pieces, pieces_take, pieces_drop}
use Rattle.px_queue.proofs.chunks.Chunks.leave.Goals as goal

pub part-requires : goal.part-requires
part-requires c =
    let s : Shelves = c.self.inside.shelf in
    let items : List Laid = c.self.inside.list.before in
    let ys : List Laid = c.self.inside.list.behind in
    let v : List Piece = c.args.self.now.before in
    let u : List Piece = c.args.self.now.behind in
    let is : pieces_of s items ≡ v = ap (λ (k : Chunked). k.before) c.self.view_is in
    let rest : pieces_of s ys ≡ u = ap (λ (k : Chunked). k.behind) c.self.view_is in
    omega (arith, c.requires, some_pieces s items v is)

pub invariant_of-self : goal.invariant_of-self
invariant_of-self c =
    let s : Shelves = c.self.inside.shelf in
    let items : List Laid = c.self.inside.list.before in
    let ys : List Laid = c.self.inside.list.behind in
    let v : List Piece = c.args.self.now.before in
    let u : List Piece = c.args.self.now.behind in
    let is : pieces_of s items ≡ v = ap (λ (k : Chunked). k.before) c.self.view_is in
    let rest : pieces_of s ys ≡ u = ap (λ (k : Chunked). k.behind) c.self.view_is in
    let k : ℕ = c.args.count in
    let same : c.part.new.self.before ++ c.part.new.self.behind ≡ items ++ ys =
    ap (λ (zs : List Laid). zs ++ c.part.new.self.behind) c.part.ensures.before ∙ ap (λ (zs : List Laid). take k items ++ zs) c.part.ensures.behind
    ∙ sym (append_assoc (take k items) (drop k items) ys) ∙ ap (λ (zs : List Laid). zs ++ ys) (take-append-drop k items) in
    let long : length c.part.new.self.before + length c.part.new.self.behind ≡ length items + length ys =
    omega (arith, ap length same, length-append c.part.new.self.before c.part.new.self.behind, length-append items ys) in
    (subst (IsTied s) (sym same) c.self.invariant.0, omega (arith, c.self.invariant.1, long, c.part.ensures.capacity))

pub returns-clause-before : goal.returns-clause-before
returns-clause-before c =
    let s : Shelves = c.self.inside.shelf in
    let items : List Laid = c.self.inside.list.before in
    let ys : List Laid = c.self.inside.list.behind in
    let v : List Piece = c.args.self.now.before in
    let u : List Piece = c.args.self.now.behind in
    let is : pieces_of s items ≡ v = ap (λ (k : Chunked). k.before) c.self.view_is in
    let rest : pieces_of s ys ≡ u = ap (λ (k : Chunked). k.behind) c.self.view_is in
    ap (pieces_of s) c.part.ensures.before ∙ pieces_take s items c.args.count ∙ ap (take c.args.count) is

pub returns-clause-behind : goal.returns-clause-behind
returns-clause-behind c =
    let s : Shelves = c.self.inside.shelf in
    let items : List Laid = c.self.inside.list.before in
    let ys : List Laid = c.self.inside.list.behind in
    let v : List Piece = c.args.self.now.before in
    let u : List Piece = c.args.self.now.behind in
    let is : pieces_of s items ≡ v = ap (λ (k : Chunked). k.before) c.self.view_is in
    let rest : pieces_of s ys ≡ u = ap (λ (k : Chunked). k.behind) c.self.view_is in
    let k : ℕ = c.args.count in
    ap (pieces_of s) c.part.ensures.behind ∙ map-append (piece_of s) (drop k items) ys
    ∙ ap (λ (ps : List Piece). ps ++ pieces_of s ys) (pieces_drop s items k ∙ ap (drop k) is) ∙ ap (λ (ps : List Piece). drop k v ++ ps) rest

pub returns-clause-room : goal.returns-clause-room
returns-clause-room c =
    let s : Shelves = c.self.inside.shelf in
    let items : List Laid = c.self.inside.list.before in
    let ys : List Laid = c.self.inside.list.behind in
    let v : List Piece = c.args.self.now.before in
    let u : List Piece = c.args.self.now.behind in
    let is : pieces_of s items ≡ v = ap (λ (k : Chunked). k.before) c.self.view_is in
    let rest : pieces_of s ys ≡ u = ap (λ (k : Chunked). k.behind) c.self.view_is in
    let k : ℕ = c.args.count in
    let same : c.part.new.self.before ++ c.part.new.self.behind ≡ items ++ ys =
    ap (λ (zs : List Laid). zs ++ c.part.new.self.behind) c.part.ensures.before ∙ ap (λ (zs : List Laid). take k items ++ zs) c.part.ensures.behind
    ∙ sym (append_assoc (take k items) (drop k items) ys) ∙ ap (λ (zs : List Laid). zs ++ ys) (take-append-drop k items) in
    let long : length c.part.new.self.before + length c.part.new.self.behind ≡ length items + length ys =
    omega (arith, ap length same, length-append c.part.new.self.before c.part.new.self.behind, length-append items ys) in
    omega (arith, long, c.part.ensures.capacity, ap (λ (k : Chunked). k.room) c.self.view_is)
