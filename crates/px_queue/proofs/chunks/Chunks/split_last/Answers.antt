use Rattle.std.proofs.Common.{◌≡◌, ◌+◌, ◌-◌, ◌≤◌, ℕ, ap, sym, subst, ◌∙◌, List, ◌∷◌, [], ◌++◌, Option, arith, length, length-append}
use Rattle.std.specs.Option.{option_to_list}
use Rattle.px_block.specs.Shelved.{Shelves, under, references_to, bytes_of, retained, SetsOnly}
use Rattle.px_queue.specs.Laid.{Laid, Chunked, IsTied, IsOn, pieces_of, piece_of}
use Rattle.px_queue.specs.Pieces.{Piece, front_of, head_to, tail_from}
use Rattle.px_queue.proofs.Tied.{refs_here, refs_countable, here_on}
use Rattle.px_queue.proofs.Numbered.{front_is, last_is, last_at, last_end_at, tied_middle, tied_whole, head_piece, tail_piece, more_map}
use Rattle.px_queue.proofs.Growing.{tied_split, split_left, split_right, split_count, split_here, split_there}
use Rattle.px_queue.proofs.chunks.Chunks.split_last.Goals as goal

pub retain-requires-clause-there : goal.retain-requires-clause-there
retain-requires-clause-there c =
    let s : Shelves = c.self.inside.shelf in
    let items : List Laid = c.self.inside.list.before in
    let ys : List Laid = c.self.inside.list.behind in
    let xs : List Laid = c.pop_back.new.self.before in
    let w : Laid = c.unwrap-last.result in
    let v : List Piece = c.args.self.now.before in
    let u : List Piece = c.args.self.now.behind in
    let is : pieces_of s items ≡ v = ap (λ (k : Chunked). k.before) c.self.view_is in
    let rest : pieces_of s ys ≡ u = ap (λ (k : Chunked). k.behind) c.self.view_is in
    let split : items ≡ xs ++ w ∷ [] = c.pop_back.ensures.items ∙ ap (λ (o : Option Laid). xs ++ option_to_list o) c.unwrap-last.ensures in
    let tied : IsTied s (xs ++ w ∷ ys) = tied_middle s items xs ys w split c.self.invariant.0 in
    subst (λ (k : ℕ). 1 ≤ references_to (under s k)) (sym c.key.ensures) (refs_here s xs ys w tied)

pub retain-requires-clause-countable : goal.retain-requires-clause-countable
retain-requires-clause-countable c =
    let s : Shelves = c.self.inside.shelf in
    let items : List Laid = c.self.inside.list.before in
    let ys : List Laid = c.self.inside.list.behind in
    let xs : List Laid = c.pop_back.new.self.before in
    let w : Laid = c.unwrap-last.result in
    let v : List Piece = c.args.self.now.before in
    let u : List Piece = c.args.self.now.behind in
    let is : pieces_of s items ≡ v = ap (λ (k : Chunked). k.before) c.self.view_is in
    let rest : pieces_of s ys ≡ u = ap (λ (k : Chunked). k.behind) c.self.view_is in
    let split : items ≡ xs ++ w ∷ [] = c.pop_back.ensures.items ∙ ap (λ (o : Option Laid). xs ++ option_to_list o) c.unwrap-last.ensures in
    omega (arith, refs_countable s (items ++ ys) c.key.result c.self.invariant.0, length-append items ys, c.self.invariant.1, c.pop_back.ensures.few)

pub head-requires-clause-from : goal.head-requires-clause-from
head-requires-clause-from c =
    let s : Shelves = c.self.inside.shelf in
    let items : List Laid = c.self.inside.list.before in
    let ys : List Laid = c.self.inside.list.behind in
    let xs : List Laid = c.pop_back.new.self.before in
    let w : Laid = c.unwrap-last.result in
    let v : List Piece = c.args.self.now.before in
    let u : List Piece = c.args.self.now.behind in
    let is : pieces_of s items ≡ v = ap (λ (k : Chunked). k.before) c.self.view_is in
    let rest : pieces_of s ys ≡ u = ap (λ (k : Chunked). k.behind) c.self.view_is in
    let split : items ≡ xs ++ w ∷ [] = c.pop_back.ensures.items ∙ ap (λ (o : Option Laid). xs ++ option_to_list o) c.unwrap-last.ensures in
    let from : w.at ≤ c.args.at = omega (arith, last_at s items xs w v is split, c.requires.from) in
    let fits : c.args.at ≤ w.at + w.len = omega (arith, last_end_at s items xs ys w v is split c.self.invariant.0, c.requires.to) in
    from

pub head-requires-clause-to : goal.head-requires-clause-to
head-requires-clause-to c =
    let s : Shelves = c.self.inside.shelf in
    let items : List Laid = c.self.inside.list.before in
    let ys : List Laid = c.self.inside.list.behind in
    let xs : List Laid = c.pop_back.new.self.before in
    let w : Laid = c.unwrap-last.result in
    let v : List Piece = c.args.self.now.before in
    let u : List Piece = c.args.self.now.behind in
    let is : pieces_of s items ≡ v = ap (λ (k : Chunked). k.before) c.self.view_is in
    let rest : pieces_of s ys ≡ u = ap (λ (k : Chunked). k.behind) c.self.view_is in
    let split : items ≡ xs ++ w ∷ [] = c.pop_back.ensures.items ∙ ap (λ (o : Option Laid). xs ++ option_to_list o) c.unwrap-last.ensures in
    let from : w.at ≤ c.args.at = omega (arith, last_at s items xs w v is split, c.requires.from) in
    let fits : c.args.at ≤ w.at + w.len = omega (arith, last_end_at s items xs ys w v is split c.self.invariant.0, c.requires.to) in
    fits

pub tail-requires-clause-from : goal.tail-requires-clause-from
tail-requires-clause-from c =
    let s : Shelves = c.self.inside.shelf in
    let items : List Laid = c.self.inside.list.before in
    let ys : List Laid = c.self.inside.list.behind in
    let xs : List Laid = c.pop_back.new.self.before in
    let w : Laid = c.unwrap-last.result in
    let v : List Piece = c.args.self.now.before in
    let u : List Piece = c.args.self.now.behind in
    let is : pieces_of s items ≡ v = ap (λ (k : Chunked). k.before) c.self.view_is in
    let rest : pieces_of s ys ≡ u = ap (λ (k : Chunked). k.behind) c.self.view_is in
    let split : items ≡ xs ++ w ∷ [] = c.pop_back.ensures.items ∙ ap (λ (o : Option Laid). xs ++ option_to_list o) c.unwrap-last.ensures in
    let from : w.at ≤ c.args.at = omega (arith, last_at s items xs w v is split, c.requires.from) in
    let fits : c.args.at ≤ w.at + w.len = omega (arith, last_end_at s items xs ys w v is split c.self.invariant.0, c.requires.to) in
    from

pub tail-requires-clause-to : goal.tail-requires-clause-to
tail-requires-clause-to c =
    let s : Shelves = c.self.inside.shelf in
    let items : List Laid = c.self.inside.list.before in
    let ys : List Laid = c.self.inside.list.behind in
    let xs : List Laid = c.pop_back.new.self.before in
    let w : Laid = c.unwrap-last.result in
    let v : List Piece = c.args.self.now.before in
    let u : List Piece = c.args.self.now.behind in
    let is : pieces_of s items ≡ v = ap (λ (k : Chunked). k.before) c.self.view_is in
    let rest : pieces_of s ys ≡ u = ap (λ (k : Chunked). k.behind) c.self.view_is in
    let split : items ≡ xs ++ w ∷ [] = c.pop_back.ensures.items ∙ ap (λ (o : Option Laid). xs ++ option_to_list o) c.unwrap-last.ensures in
    let from : w.at ≤ c.args.at = omega (arith, last_at s items xs w v is split, c.requires.from) in
    let fits : c.args.at ≤ w.at + w.len = omega (arith, last_end_at s items xs ys w v is split c.self.invariant.0, c.requires.to) in
    fits

pub invariant_of-self : goal.invariant_of-self
invariant_of-self c =
    let s : Shelves = c.self.inside.shelf in
    let items : List Laid = c.self.inside.list.before in
    let ys : List Laid = c.self.inside.list.behind in
    let xs : List Laid = c.pop_back.new.self.before in
    let w : Laid = c.unwrap-last.result in
    let v : List Piece = c.args.self.now.before in
    let u : List Piece = c.args.self.now.behind in
    let is : pieces_of s items ≡ v = ap (λ (k : Chunked). k.before) c.self.view_is in
    let rest : pieces_of s ys ≡ u = ap (λ (k : Chunked). k.behind) c.self.view_is in
    let split : items ≡ xs ++ w ∷ [] = c.pop_back.ensures.items ∙ ap (λ (o : Option Laid). xs ++ option_to_list o) c.unwrap-last.ensures in
    let tied : IsTied s (xs ++ w ∷ ys) = tied_middle s items xs ys w split c.self.invariant.0 in
    let from : w.at ≤ c.args.at = omega (arith, last_at s items xs w v is split, c.requires.from) in
    let fits : c.args.at ≤ w.at + w.len = omega (arith, last_end_at s items xs ys w v is split c.self.invariant.0, c.requires.to) in
    let t : Shelves = c.retain.new.self in
    let set : SetsOnly s t w.key (retained (under s w.key)) = subst (λ (k : ℕ). SetsOnly s t k (retained (under s k))) c.key.ensures c.retain.ensures.slots in
    let l : Laid = c.head.result in
    let r : Laid = c.tail.result in
    let left : l.key ≡ w.key = ap (λ (x : Laid). x.key) c.head.ensures in
    let right : r.key ≡ w.key = ap (λ (x : Laid). x.key) c.tail.ensures in
    let on : IsOn s w = here_on s xs ys w tied in
    let len_l : l.len ≡ c.args.at - w.at = ap (λ (x : Laid). x.len) c.head.ensures in
    let place_l : l.place ≡ w.place = ap (λ (x : Laid). x.place) c.head.ensures in
    let len_r : r.len ≡ w.len - (c.args.at - w.at) = ap (λ (x : Laid). x.len) c.tail.ensures in
    let place_r : r.place ≡ w.place + (c.args.at - w.at) = ap (λ (x : Laid). x.place) c.tail.ensures in
    let after : c.push_behind_reserved.new.self.behind ≡ r ∷ ys = c.push_behind_reserved.ensures.items ∙ ap (λ (zs : List Laid). r ∷ zs) (c.push_back_reserved.ensures.behind ∙ c.pop_back.ensures.behind) in
    let parts : c.push_behind_reserved.new.self.before ++ c.push_behind_reserved.new.self.behind ≡ c.push_back_reserved.new.self.before ++ (r ∷ ys) =
    ap (λ (zs : List Laid). zs ++ c.push_behind_reserved.new.self.behind) c.push_behind_reserved.ensures.before ∙ ap (λ (zs : List Laid). c.push_back_reserved.new.self.before ++ zs) after in
    let on_l : IsOn s l = subst (λ (k : ℕ). l.place + l.len ≤ length (bytes_of (under s k))) (sym left) (omega arith) in
    let on_r : IsOn s r = subst (λ (k : ℕ). r.place + r.len ≤ length (bytes_of (under s k))) (sym right) (omega arith) in (
      subst (IsTied t) (sym parts)
          (tied_whole t c.push_back_reserved.new.self.before xs (r ∷ ys) l c.push_back_reserved.ensures.items (tied_split s t xs ys w l r tied set left right on_l on_r)),
      omega (arith, c.self.invariant.1, ap length after, ap length c.push_behind_reserved.ensures.before, ap (λ (k : Chunked). k.room) c.self.view_is, c.requires.room, c.pop_back.ensures.capacity, c.push_back_reserved.ensures.capacity, ap length c.push_back_reserved.ensures.items, c.push_behind_reserved.ensures.capacity, ap length c.push_behind_reserved.ensures.items, ap length split, length-append xs (w ∷ []), length-append xs (c.head.result ∷ [])),
    )

pub returns-clause-before : goal.returns-clause-before
returns-clause-before c =
    let s : Shelves = c.self.inside.shelf in
    let items : List Laid = c.self.inside.list.before in
    let ys : List Laid = c.self.inside.list.behind in
    let xs : List Laid = c.pop_back.new.self.before in
    let w : Laid = c.unwrap-last.result in
    let v : List Piece = c.args.self.now.before in
    let u : List Piece = c.args.self.now.behind in
    let is : pieces_of s items ≡ v = ap (λ (k : Chunked). k.before) c.self.view_is in
    let rest : pieces_of s ys ≡ u = ap (λ (k : Chunked). k.behind) c.self.view_is in
    let split : items ≡ xs ++ w ∷ [] = c.pop_back.ensures.items ∙ ap (λ (o : Option Laid). xs ++ option_to_list o) c.unwrap-last.ensures in
    let tied : IsTied s (xs ++ w ∷ ys) = tied_middle s items xs ys w split c.self.invariant.0 in
    let from : w.at ≤ c.args.at = omega (arith, last_at s items xs w v is split, c.requires.from) in
    let fits : c.args.at ≤ w.at + w.len = omega (arith, last_end_at s items xs ys w v is split c.self.invariant.0, c.requires.to) in
    let t : Shelves = c.retain.new.self in
    let set : SetsOnly s t w.key (retained (under s w.key)) = subst (λ (k : ℕ). SetsOnly s t k (retained (under s k))) c.key.ensures c.retain.ensures.slots in
    let l : Laid = c.head.result in
    let r : Laid = c.tail.result in
    let left : l.key ≡ w.key = ap (λ (x : Laid). x.key) c.head.ensures in
    let right : r.key ≡ w.key = ap (λ (x : Laid). x.key) c.tail.ensures in
    ap (pieces_of t) c.push_behind_reserved.ensures.before ∙ more_map t c.push_back_reserved.new.self.before xs l c.push_back_reserved.ensures.items
    ∙ ap (λ (ps : List Piece). ps ++ piece_of t l ∷ []) (split_left s t xs ys w l r tied set left right ∙ front_is s items xs w v is split)
    ∙ ap (λ (p : Piece). front_of v ++ p ∷ [])
    (split_here s t xs ys w l r tied set left right ∙ ap (piece_of s) c.head.ensures ∙ head_piece s w c.args.at fits ∙ ap (λ (p : Piece). head_to p c.args.at) (last_is s items xs w v is split))

pub returns-clause-behind : goal.returns-clause-behind
returns-clause-behind c =
    let s : Shelves = c.self.inside.shelf in
    let items : List Laid = c.self.inside.list.before in
    let ys : List Laid = c.self.inside.list.behind in
    let xs : List Laid = c.pop_back.new.self.before in
    let w : Laid = c.unwrap-last.result in
    let v : List Piece = c.args.self.now.before in
    let u : List Piece = c.args.self.now.behind in
    let is : pieces_of s items ≡ v = ap (λ (k : Chunked). k.before) c.self.view_is in
    let rest : pieces_of s ys ≡ u = ap (λ (k : Chunked). k.behind) c.self.view_is in
    let split : items ≡ xs ++ w ∷ [] = c.pop_back.ensures.items ∙ ap (λ (o : Option Laid). xs ++ option_to_list o) c.unwrap-last.ensures in
    let tied : IsTied s (xs ++ w ∷ ys) = tied_middle s items xs ys w split c.self.invariant.0 in
    let from : w.at ≤ c.args.at = omega (arith, last_at s items xs w v is split, c.requires.from) in
    let fits : c.args.at ≤ w.at + w.len = omega (arith, last_end_at s items xs ys w v is split c.self.invariant.0, c.requires.to) in
    let t : Shelves = c.retain.new.self in
    let set : SetsOnly s t w.key (retained (under s w.key)) = subst (λ (k : ℕ). SetsOnly s t k (retained (under s k))) c.key.ensures c.retain.ensures.slots in
    let l : Laid = c.head.result in
    let r : Laid = c.tail.result in
    let left : l.key ≡ w.key = ap (λ (x : Laid). x.key) c.head.ensures in
    let right : r.key ≡ w.key = ap (λ (x : Laid). x.key) c.tail.ensures in
    ap (pieces_of t) (c.push_behind_reserved.ensures.items ∙ ap (λ (zs : List Laid). r ∷ zs) (c.push_back_reserved.ensures.behind ∙ c.pop_back.ensures.behind))
    ∙ ap (λ (ps : List Piece). piece_of t r ∷ ps) (split_right s t xs ys w l r tied set left right ∙ rest)
    ∙ ap (λ (p : Piece). p ∷ u)
    (split_there s t xs ys w l r tied set left right ∙ ap (piece_of s) c.tail.ensures ∙ tail_piece s w c.args.at from fits ∙ ap (λ (p : Piece). tail_from p c.args.at) (last_is s items xs w v is split))

pub returns-clause-blocks : goal.returns-clause-blocks
returns-clause-blocks c =
    let s : Shelves = c.self.inside.shelf in
    let items : List Laid = c.self.inside.list.before in
    let ys : List Laid = c.self.inside.list.behind in
    let xs : List Laid = c.pop_back.new.self.before in
    let w : Laid = c.unwrap-last.result in
    let v : List Piece = c.args.self.now.before in
    let u : List Piece = c.args.self.now.behind in
    let is : pieces_of s items ≡ v = ap (λ (k : Chunked). k.before) c.self.view_is in
    let rest : pieces_of s ys ≡ u = ap (λ (k : Chunked). k.behind) c.self.view_is in
    let split : items ≡ xs ++ w ∷ [] = c.pop_back.ensures.items ∙ ap (λ (o : Option Laid). xs ++ option_to_list o) c.unwrap-last.ensures in
    let tied : IsTied s (xs ++ w ∷ ys) = tied_middle s items xs ys w split c.self.invariant.0 in
    let t : Shelves = c.retain.new.self in
    let set : SetsOnly s t w.key (retained (under s w.key)) = subst (λ (k : ℕ). SetsOnly s t k (retained (under s k))) c.key.ensures c.retain.ensures.slots in
    let l : Laid = c.head.result in
    let r : Laid = c.tail.result in
    let left : l.key ≡ w.key = ap (λ (x : Laid). x.key) c.head.ensures in
    let right : r.key ≡ w.key = ap (λ (x : Laid). x.key) c.tail.ensures in
    split_count s t xs ys w l r tied set left right ∙ ap (λ (k : Chunked). k.blocks) c.self.view_is
