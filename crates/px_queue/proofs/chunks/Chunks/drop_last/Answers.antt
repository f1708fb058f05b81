use Rattle.std.proofs.Common.{◌≡◌, ◌≤◌, ℕ, ap, sym, subst, ◌∙◌, List, ◌∷◌, [], ◌++◌, Option, arith, length, length-append}
use Rattle.std.specs.Option.{option_to_list}
use Rattle.px_block.specs.Shelved.{Shelves, under, references_to, released, SetsOnly}
use Rattle.px_queue.specs.Laid.{Laid, Chunked, IsTied, pieces_of}
use Rattle.px_queue.specs.Pieces.{Piece}
use Rattle.px_queue.proofs.Tied.{tied_less, less_left, less_right, refs_here}
use Rattle.px_queue.proofs.Numbered.{front_is, tied_middle}
use Rattle.px_queue.proofs.chunks.Chunks.drop_last.Goals as goal

pub let_go-requires : goal.let_go-requires
let_go-requires g c =
    let s : Shelves = c.self.inside.shelf in
    let items : List Laid = c.self.inside.list.before in
    let ys : List Laid = c.self.inside.list.behind in
    let xs : List Laid = c.pop_back.new.self.before in
    let w : Laid = c.unwrap-last.result in
    let v : List Piece = c.args.self.now.before in
    let u : List Piece = c.args.self.now.behind in
    let is : pieces_of s items ≡ v = ap (λ (k : Chunked). k.before) c.self.view_is in
    let rest : pieces_of s ys ≡ u = ap (λ (k : Chunked). k.behind) c.self.view_is in
    let split : items ≡ xs ++ w ∷ [] = c.pop_back.ensures.items ∙ ap (λ (o : Option Laid). xs ++ option_to_list o) c.unwrap-last.ensures in
    let tied : IsTied s (xs ++ w ∷ ys) = tied_middle s items xs ys w split c.self.invariant.0 in
    subst (λ (k : ℕ). 1 ≤ references_to (under s k)) (sym c.key.ensures) (refs_here s xs ys w tied)

pub invariant_of-self : goal.invariant_of-self
invariant_of-self g c =
    let s : Shelves = c.self.inside.shelf in
    let items : List Laid = c.self.inside.list.before in
    let ys : List Laid = c.self.inside.list.behind in
    let xs : List Laid = c.pop_back.new.self.before in
    let w : Laid = c.unwrap-last.result in
    let v : List Piece = c.args.self.now.before in
    let u : List Piece = c.args.self.now.behind in
    let is : pieces_of s items ≡ v = ap (λ (k : Chunked). k.before) c.self.view_is in
    let rest : pieces_of s ys ≡ u = ap (λ (k : Chunked). k.behind) c.self.view_is in
    let split : items ≡ xs ++ w ∷ [] = c.pop_back.ensures.items ∙ ap (λ (o : Option Laid). xs ++ option_to_list o) c.unwrap-last.ensures in
    let tied : IsTied s (xs ++ w ∷ ys) = tied_middle s items xs ys w split c.self.invariant.0 in
    let t : Shelves = c.let_go.new.shelf in
    let set : SetsOnly s t w.key (released (under s w.key)) = subst (λ (k : ℕ). SetsOnly s t k (released (under s k))) c.key.ensures c.let_go.ensures.slots in
    (subst (λ (zs : List Laid). IsTied t (xs ++ zs)) (sym c.pop_back.ensures.behind) (tied_less s t xs ys w tied set), omega (arith, c.self.invariant.1, ap length c.pop_back.ensures.behind, c.pop_back.ensures.capacity, ap length split, length-append xs (w ∷ [])))

pub returns-clause-before : goal.returns-clause-before
returns-clause-before g c =
    let s : Shelves = c.self.inside.shelf in
    let items : List Laid = c.self.inside.list.before in
    let ys : List Laid = c.self.inside.list.behind in
    let xs : List Laid = c.pop_back.new.self.before in
    let w : Laid = c.unwrap-last.result in
    let v : List Piece = c.args.self.now.before in
    let u : List Piece = c.args.self.now.behind in
    let is : pieces_of s items ≡ v = ap (λ (k : Chunked). k.before) c.self.view_is in
    let rest : pieces_of s ys ≡ u = ap (λ (k : Chunked). k.behind) c.self.view_is in
    let split : items ≡ xs ++ w ∷ [] = c.pop_back.ensures.items ∙ ap (λ (o : Option Laid). xs ++ option_to_list o) c.unwrap-last.ensures in
    let tied : IsTied s (xs ++ w ∷ ys) = tied_middle s items xs ys w split c.self.invariant.0 in
    let t : Shelves = c.let_go.new.shelf in
    let set : SetsOnly s t w.key (released (under s w.key)) = subst (λ (k : ℕ). SetsOnly s t k (released (under s k))) c.key.ensures c.let_go.ensures.slots in
    less_left s t xs ys w tied set ∙ front_is s items xs w v is split

pub returns-clause-behind : goal.returns-clause-behind
returns-clause-behind g c =
    let s : Shelves = c.self.inside.shelf in
    let items : List Laid = c.self.inside.list.before in
    let ys : List Laid = c.self.inside.list.behind in
    let xs : List Laid = c.pop_back.new.self.before in
    let w : Laid = c.unwrap-last.result in
    let v : List Piece = c.args.self.now.before in
    let u : List Piece = c.args.self.now.behind in
    let is : pieces_of s items ≡ v = ap (λ (k : Chunked). k.before) c.self.view_is in
    let rest : pieces_of s ys ≡ u = ap (λ (k : Chunked). k.behind) c.self.view_is in
    let split : items ≡ xs ++ w ∷ [] = c.pop_back.ensures.items ∙ ap (λ (o : Option Laid). xs ++ option_to_list o) c.unwrap-last.ensures in
    let tied : IsTied s (xs ++ w ∷ ys) = tied_middle s items xs ys w split c.self.invariant.0 in
    let t : Shelves = c.let_go.new.shelf in
    let set : SetsOnly s t w.key (released (under s w.key)) = subst (λ (k : ℕ). SetsOnly s t k (released (under s k))) c.key.ensures c.let_go.ensures.slots in
    ap (pieces_of t) c.pop_back.ensures.behind ∙ less_right s t xs ys w tied set ∙ rest
