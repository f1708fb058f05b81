use Rattle.std.proofs.Common.{◌≡◌, ◌≤◌, ℕ, ap, sym, subst, ◌∙◌, List, ◌∷◌, [], ◌++◌, Option, arith, length}
use Rattle.std.specs.Option.{option_to_list}
use Rattle.px_block.specs.Shelved.{Shelves, under, references_to, released, SetsOnly}
use Rattle.px_queue.specs.Laid.{Laid, Chunked, IsTied, IsOn, pieces_of}
use Rattle.px_queue.specs.Pieces.{Piece}
use Rattle.px_queue.proofs.Tied.{tied_less, refs_here, same_pieces, extends_left, extends_right, less_extends, all_left, all_right}
use Rattle.px_queue.proofs.Numbered.{rest_is}
use Rattle.px_queue.proofs.chunks.Chunks.drop_first.Goals as goal

pub let_go-requires : goal.let_go-requires
let_go-requires g c =
    let s : Shelves = c.self.inside.shelf in
    let items : List Laid = c.self.inside.list.before in
    let ys : List Laid = c.self.inside.list.behind in
    let xs : List Laid = c.pop_front.new.self.before in
    let w : Laid = c.unwrap-first.result in
    let v : List Piece = c.args.self.now.before in
    let u : List Piece = c.args.self.now.behind in
    let is : pieces_of s items ≡ v = ap (λ (k : Chunked). k.before) c.self.view_is in
    let rest : pieces_of s ys ≡ u = ap (λ (k : Chunked). k.behind) c.self.view_is in
    let split : items ≡ w ∷ xs = c.pop_front.ensures.items ∙ ap (λ (o : Option Laid). option_to_list o ++ xs) c.unwrap-first.ensures in
    let tied : IsTied s (w ∷ (xs ++ ys)) = subst (λ (zs : List Laid). IsTied s (zs ++ ys)) split c.self.invariant.0 in
    subst (λ (k : ℕ). 1 ≤ references_to (under s k)) (sym c.key.ensures) (refs_here s [] (xs ++ ys) w tied)

pub invariant_of-self : goal.invariant_of-self
invariant_of-self g c =
    let s : Shelves = c.self.inside.shelf in
    let items : List Laid = c.self.inside.list.before in
    let ys : List Laid = c.self.inside.list.behind in
    let xs : List Laid = c.pop_front.new.self.before in
    let w : Laid = c.unwrap-first.result in
    let v : List Piece = c.args.self.now.before in
    let u : List Piece = c.args.self.now.behind in
    let is : pieces_of s items ≡ v = ap (λ (k : Chunked). k.before) c.self.view_is in
    let rest : pieces_of s ys ≡ u = ap (λ (k : Chunked). k.behind) c.self.view_is in
    let split : items ≡ w ∷ xs = c.pop_front.ensures.items ∙ ap (λ (o : Option Laid). option_to_list o ++ xs) c.unwrap-first.ensures in
    let tied : IsTied s (w ∷ (xs ++ ys)) = subst (λ (zs : List Laid). IsTied s (zs ++ ys)) split c.self.invariant.0 in
    let t : Shelves = c.let_go.new.shelf in
    let set : SetsOnly s t w.key (released (under s w.key)) = subst (λ (k : ℕ). SetsOnly s t k (released (under s k))) c.key.ensures c.let_go.ensures.slots in
    (subst (λ (zs : List Laid). IsTied t (xs ++ zs)) (sym c.pop_front.ensures.behind) (tied_less s t [] (xs ++ ys) w tied set), omega (arith, c.self.invariant.1, ap length c.pop_front.ensures.behind, c.pop_front.ensures.capacity, ap length split))

pub returns-clause-before : goal.returns-clause-before
returns-clause-before g c =
    let s : Shelves = c.self.inside.shelf in
    let items : List Laid = c.self.inside.list.before in
    let ys : List Laid = c.self.inside.list.behind in
    let xs : List Laid = c.pop_front.new.self.before in
    let w : Laid = c.unwrap-first.result in
    let v : List Piece = c.args.self.now.before in
    let u : List Piece = c.args.self.now.behind in
    let is : pieces_of s items ≡ v = ap (λ (k : Chunked). k.before) c.self.view_is in
    let rest : pieces_of s ys ≡ u = ap (λ (k : Chunked). k.behind) c.self.view_is in
    let split : items ≡ w ∷ xs = c.pop_front.ensures.items ∙ ap (λ (o : Option Laid). option_to_list o ++ xs) c.unwrap-first.ensures in
    let tied : IsTied s (w ∷ (xs ++ ys)) = subst (λ (zs : List Laid). IsTied s (zs ++ ys)) split c.self.invariant.0 in
    let t : Shelves = c.let_go.new.shelf in
    let set : SetsOnly s t w.key (released (under s w.key)) = subst (λ (k : ℕ). SetsOnly s t k (released (under s k))) c.key.ensures c.let_go.ensures.slots in
    same_pieces s t xs (extends_left s t xs ys (less_extends s t [] (xs ++ ys) w tied set)) (all_left (IsOn s) xs ys (tied.on.1)) ∙ rest_is s items xs w v is split

pub returns-clause-behind : goal.returns-clause-behind
returns-clause-behind g c =
    let s : Shelves = c.self.inside.shelf in
    let items : List Laid = c.self.inside.list.before in
    let ys : List Laid = c.self.inside.list.behind in
    let xs : List Laid = c.pop_front.new.self.before in
    let w : Laid = c.unwrap-first.result in
    let v : List Piece = c.args.self.now.before in
    let u : List Piece = c.args.self.now.behind in
    let is : pieces_of s items ≡ v = ap (λ (k : Chunked). k.before) c.self.view_is in
    let rest : pieces_of s ys ≡ u = ap (λ (k : Chunked). k.behind) c.self.view_is in
    let split : items ≡ w ∷ xs = c.pop_front.ensures.items ∙ ap (λ (o : Option Laid). option_to_list o ++ xs) c.unwrap-first.ensures in
    let tied : IsTied s (w ∷ (xs ++ ys)) = subst (λ (zs : List Laid). IsTied s (zs ++ ys)) split c.self.invariant.0 in
    let t : Shelves = c.let_go.new.shelf in
    let set : SetsOnly s t w.key (released (under s w.key)) = subst (λ (k : ℕ). SetsOnly s t k (released (under s k))) c.key.ensures c.let_go.ensures.slots in
    ap (pieces_of t) c.pop_front.ensures.behind ∙ same_pieces s t ys (extends_right s t xs ys (less_extends s t [] (xs ++ ys) w tied set)) (all_right (IsOn s) xs ys (tied.on.1)) ∙ rest
