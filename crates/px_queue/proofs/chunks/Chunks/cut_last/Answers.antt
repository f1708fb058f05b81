use Rattle.std.proofs.Common.{◌≡◌, ◌+◌, ◌-◌, ◌≤◌, ℕ, ap, sym, subst, ◌∙◌, List, ◌∷◌, [], ◌++◌, Option, arith, length, length-append}
use Rattle.std.specs.Option.{option_to_list}
use Rattle.px_block.specs.Shelved.{Shelves, under, bytes_of}
use Rattle.px_queue.specs.Laid.{Laid, Chunked, IsTied, IsOn, pieces_of, piece_of}
use Rattle.px_queue.specs.Pieces.{Piece, front_of, head_to}
use Rattle.px_queue.proofs.Tied.{tied_other, here_on}
use Rattle.px_queue.proofs.Numbered.{front_is, last_is, last_at, last_end_at, tied_middle, tied_whole, head_piece, more_map}
use Rattle.px_queue.proofs.chunks.Chunks.cut_last.Goals as goal

pub head-requires-clause-from : goal.head-requires-clause-from
head-requires-clause-from c =
    let s : Shelves = c.self.inside.shelf in
    let items : List Laid = c.self.inside.list.before in
    let ys : List Laid = c.self.inside.list.behind in
    let xs : List Laid = c.pop_back.new.self.before in
    let w : Laid = c.unwrap-last.result in
    let v : List Piece = c.args.self.now.before in
    let u : List Piece = c.args.self.now.behind in
    let is : pieces_of s items ≡ v = ap (λ (k : Chunked). k.before) c.self.view_is in
    let rest : pieces_of s ys ≡ u = ap (λ (k : Chunked). k.behind) c.self.view_is in
    let split : items ≡ xs ++ w ∷ [] = c.pop_back.ensures.items ∙ ap (λ (o : Option Laid). xs ++ option_to_list o) c.unwrap-last.ensures in
    let from : w.at ≤ c.args.to = omega (arith, last_at s items xs w v is split, c.requires.from) in
    let fits : c.args.to ≤ w.at + w.len = omega (arith, last_end_at s items xs ys w v is split c.self.invariant.0, c.requires.to) in
    from

pub head-requires-clause-to : goal.head-requires-clause-to
head-requires-clause-to c =
    let s : Shelves = c.self.inside.shelf in
    let items : List Laid = c.self.inside.list.before in
    let ys : List Laid = c.self.inside.list.behind in
    let xs : List Laid = c.pop_back.new.self.before in
    let w : Laid = c.unwrap-last.result in
    let v : List Piece = c.args.self.now.before in
    let u : List Piece = c.args.self.now.behind in
    let is : pieces_of s items ≡ v = ap (λ (k : Chunked). k.before) c.self.view_is in
    let rest : pieces_of s ys ≡ u = ap (λ (k : Chunked). k.behind) c.self.view_is in
    let split : items ≡ xs ++ w ∷ [] = c.pop_back.ensures.items ∙ ap (λ (o : Option Laid). xs ++ option_to_list o) c.unwrap-last.ensures in
    let from : w.at ≤ c.args.to = omega (arith, last_at s items xs w v is split, c.requires.from) in
    let fits : c.args.to ≤ w.at + w.len = omega (arith, last_end_at s items xs ys w v is split c.self.invariant.0, c.requires.to) in
    fits

pub invariant_of-self : goal.invariant_of-self
invariant_of-self c =
    let s : Shelves = c.self.inside.shelf in
    let items : List Laid = c.self.inside.list.before in
    let ys : List Laid = c.self.inside.list.behind in
    let xs : List Laid = c.pop_back.new.self.before in
    let w : Laid = c.unwrap-last.result in
    let v : List Piece = c.args.self.now.before in
    let u : List Piece = c.args.self.now.behind in
    let is : pieces_of s items ≡ v = ap (λ (k : Chunked). k.before) c.self.view_is in
    let rest : pieces_of s ys ≡ u = ap (λ (k : Chunked). k.behind) c.self.view_is in
    let split : items ≡ xs ++ w ∷ [] = c.pop_back.ensures.items ∙ ap (λ (o : Option Laid). xs ++ option_to_list o) c.unwrap-last.ensures in
    let tied : IsTied s (xs ++ w ∷ ys) = tied_middle s items xs ys w split c.self.invariant.0 in
    let from : w.at ≤ c.args.to = omega (arith, last_at s items xs w v is split, c.requires.from) in
    let fits : c.args.to ≤ w.at + w.len = omega (arith, last_end_at s items xs ys w v is split c.self.invariant.0, c.requires.to) in
    let d : Laid = c.head.result in
    let len : d.len ≡ c.args.to - w.at = ap (λ (x : Laid). x.len) c.head.ensures in
    let place : d.place ≡ w.place = ap (λ (x : Laid). x.place) c.head.ensures in
    let on : IsOn s w = here_on s xs ys w tied in
    let key : d.key ≡ w.key = ap (λ (x : Laid). x.key) c.head.ensures in
    let after : c.push_back_reserved.new.self.behind ≡ ys = c.push_back_reserved.ensures.behind ∙ c.pop_back.ensures.behind in
    let on_d : IsOn s d = subst (λ (k : ℕ). d.place + d.len ≤ length (bytes_of (under s k))) (sym key) (omega arith) in (
      subst (λ (zs : List Laid). IsTied s (c.push_back_reserved.new.self.before ++ zs)) (sym after)
          (tied_whole s c.push_back_reserved.new.self.before xs ys d c.push_back_reserved.ensures.items (tied_other s xs ys w d tied key on_d)),
      omega (arith, c.self.invariant.1, ap length after, c.pop_back.ensures.capacity, c.push_back_reserved.ensures.capacity, ap length c.push_back_reserved.ensures.items, ap length split, length-append xs (w ∷ []), length-append xs (c.head.result ∷ [])),
    )

pub returns-clause-before : goal.returns-clause-before
returns-clause-before c =
    let s : Shelves = c.self.inside.shelf in
    let items : List Laid = c.self.inside.list.before in
    let ys : List Laid = c.self.inside.list.behind in
    let xs : List Laid = c.pop_back.new.self.before in
    let w : Laid = c.unwrap-last.result in
    let v : List Piece = c.args.self.now.before in
    let u : List Piece = c.args.self.now.behind in
    let is : pieces_of s items ≡ v = ap (λ (k : Chunked). k.before) c.self.view_is in
    let rest : pieces_of s ys ≡ u = ap (λ (k : Chunked). k.behind) c.self.view_is in
    let split : items ≡ xs ++ w ∷ [] = c.pop_back.ensures.items ∙ ap (λ (o : Option Laid). xs ++ option_to_list o) c.unwrap-last.ensures in
    let from : w.at ≤ c.args.to = omega (arith, last_at s items xs w v is split, c.requires.from) in
    let fits : c.args.to ≤ w.at + w.len = omega (arith, last_end_at s items xs ys w v is split c.self.invariant.0, c.requires.to) in
    let d : Laid = c.head.result in
    more_map s c.push_back_reserved.new.self.before xs d c.push_back_reserved.ensures.items
    ∙ ap (λ (ps : List Piece). ps ++ piece_of s d ∷ []) (front_is s items xs w v is split)
    ∙ ap (λ (p : Piece). front_of v ++ p ∷ [])
    (ap (piece_of s) c.head.ensures ∙ head_piece s w c.args.to fits ∙ ap (λ (p : Piece). head_to p c.args.to) (last_is s items xs w v is split))

pub returns-clause-behind : goal.returns-clause-behind
returns-clause-behind c =
    ap (pieces_of c.self.inside.shelf) (c.push_back_reserved.ensures.behind ∙ c.pop_back.ensures.behind) ∙ ap (λ (k : Chunked). k.behind) c.self.view_is
