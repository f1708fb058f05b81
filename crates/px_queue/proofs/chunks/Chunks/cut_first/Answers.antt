use Rattle.std.proofs.Common.{◌≡◌, ◌+◌, ◌-◌, ◌≤◌, ℕ, ap, sym, subst, ◌∙◌, List, ◌∷◌, [], ◌++◌, Option, arith, drop, length}
use Rattle.std.specs.Prelude.{slice_index_or}
use Rattle.std.specs.Option.{option_to_list}
use Rattle.px_block.specs.Shelved.{Shelves, under, bytes_of}
use Rattle.px_queue.specs.Laid.{Laid, Chunked, IsTied, IsOn, pieces_of, piece_of}
use Rattle.px_queue.specs.Pieces.{Piece, tail_from, end_of}
use Rattle.px_queue.proofs.Tied.{tied_other, here_on, long_piece}
use Rattle.px_queue.proofs.Numbered.{tail_piece, first_is, rest_is}
use Rattle.px_queue.proofs.chunks.Chunks.cut_first.Goals as goal

pub tail-requires-clause-from : goal.tail-requires-clause-from
tail-requires-clause-from c =
    let s : Shelves = c.self.inside.shelf in
    let items : List Laid = c.self.inside.list.before in
    let ys : List Laid = c.self.inside.list.behind in
    let xs : List Laid = c.pop_front.new.self.before in
    let w : Laid = c.unwrap-first.result in
    let v : List Piece = c.args.self.now.before in
    let u : List Piece = c.args.self.now.behind in
    let is : pieces_of s items ≡ v = ap (λ (k : Chunked). k.before) c.self.view_is in
    let rest : pieces_of s ys ≡ u = ap (λ (k : Chunked). k.behind) c.self.view_is in
    let split : items ≡ w ∷ xs = c.pop_front.ensures.items ∙ ap (λ (o : Option Laid). option_to_list o ++ xs) c.unwrap-first.ensures in
    let tied : IsTied s (w ∷ (xs ++ ys)) = subst (λ (zs : List Laid). IsTied s (zs ++ ys)) split c.self.invariant.0 in
    let on : IsOn s w = here_on s [] (xs ++ ys) w tied in
    let long : length (Piece.bytes (piece_of s w)) ≡ w.len = long_piece s w on in
    let one : piece_of s w ≡ slice_index_or v 0 (piece_of s w) = first_is s items xs w v (piece_of s w) is split in
    let from : w.at ≤ c.args.from = omega (arith, ap Piece.at one, c.requires.from (piece_of s w)) in
    let fits : c.args.from ≤ w.at + w.len = omega (arith, ap end_of one, long, c.requires.to (piece_of s w)) in
    from

pub tail-requires-clause-to : goal.tail-requires-clause-to
tail-requires-clause-to c =
    let s : Shelves = c.self.inside.shelf in
    let items : List Laid = c.self.inside.list.before in
    let ys : List Laid = c.self.inside.list.behind in
    let xs : List Laid = c.pop_front.new.self.before in
    let w : Laid = c.unwrap-first.result in
    let v : List Piece = c.args.self.now.before in
    let u : List Piece = c.args.self.now.behind in
    let is : pieces_of s items ≡ v = ap (λ (k : Chunked). k.before) c.self.view_is in
    let rest : pieces_of s ys ≡ u = ap (λ (k : Chunked). k.behind) c.self.view_is in
    let split : items ≡ w ∷ xs = c.pop_front.ensures.items ∙ ap (λ (o : Option Laid). option_to_list o ++ xs) c.unwrap-first.ensures in
    let tied : IsTied s (w ∷ (xs ++ ys)) = subst (λ (zs : List Laid). IsTied s (zs ++ ys)) split c.self.invariant.0 in
    let on : IsOn s w = here_on s [] (xs ++ ys) w tied in
    let long : length (Piece.bytes (piece_of s w)) ≡ w.len = long_piece s w on in
    let one : piece_of s w ≡ slice_index_or v 0 (piece_of s w) = first_is s items xs w v (piece_of s w) is split in
    let from : w.at ≤ c.args.from = omega (arith, ap Piece.at one, c.requires.from (piece_of s w)) in
    let fits : c.args.from ≤ w.at + w.len = omega (arith, ap end_of one, long, c.requires.to (piece_of s w)) in
    fits

pub invariant_of-self : goal.invariant_of-self
invariant_of-self c =
    let s : Shelves = c.self.inside.shelf in
    let items : List Laid = c.self.inside.list.before in
    let ys : List Laid = c.self.inside.list.behind in
    let xs : List Laid = c.pop_front.new.self.before in
    let w : Laid = c.unwrap-first.result in
    let v : List Piece = c.args.self.now.before in
    let u : List Piece = c.args.self.now.behind in
    let is : pieces_of s items ≡ v = ap (λ (k : Chunked). k.before) c.self.view_is in
    let rest : pieces_of s ys ≡ u = ap (λ (k : Chunked). k.behind) c.self.view_is in
    let split : items ≡ w ∷ xs = c.pop_front.ensures.items ∙ ap (λ (o : Option Laid). option_to_list o ++ xs) c.unwrap-first.ensures in
    let tied : IsTied s (w ∷ (xs ++ ys)) = subst (λ (zs : List Laid). IsTied s (zs ++ ys)) split c.self.invariant.0 in
    let on : IsOn s w = here_on s [] (xs ++ ys) w tied in
    let long : length (Piece.bytes (piece_of s w)) ≡ w.len = long_piece s w on in
    let one : piece_of s w ≡ slice_index_or v 0 (piece_of s w) = first_is s items xs w v (piece_of s w) is split in
    let from : w.at ≤ c.args.from = omega (arith, ap Piece.at one, c.requires.from (piece_of s w)) in
    let fits : c.args.from ≤ w.at + w.len = omega (arith, ap end_of one, long, c.requires.to (piece_of s w)) in
    let d : Laid = c.tail.result in
    let len : d.len ≡ w.len - (c.args.from - w.at) = ap (λ (x : Laid). x.len) c.tail.ensures in
    let place : d.place ≡ w.place + (c.args.from - w.at) = ap (λ (x : Laid). x.place) c.tail.ensures in
    let key : d.key ≡ w.key = ap (λ (x : Laid). x.key) c.tail.ensures in
    let after : c.push_front_reserved.new.self.behind ≡ ys = c.push_front_reserved.ensures.behind ∙ c.pop_front.ensures.behind in
    let on_d : IsOn s d = subst (λ (k : ℕ). d.place + d.len ≤ length (bytes_of (under s k))) (sym key) (omega arith) in (
      subst (λ (zs : List Laid). IsTied s (c.push_front_reserved.new.self.before ++ zs)) (sym after)
          (subst (λ (zs : List Laid). IsTied s (zs ++ ys)) (sym c.push_front_reserved.ensures.items) (tied_other s [] (xs ++ ys) w d tied key on_d)),
      omega (arith, c.self.invariant.1, ap length after, c.pop_front.ensures.capacity, c.push_front_reserved.ensures.capacity, ap length c.push_front_reserved.ensures.items, ap length split),
    )

pub returns-clause-before : goal.returns-clause-before
returns-clause-before c =
    let s : Shelves = c.self.inside.shelf in
    let items : List Laid = c.self.inside.list.before in
    let ys : List Laid = c.self.inside.list.behind in
    let xs : List Laid = c.pop_front.new.self.before in
    let w : Laid = c.unwrap-first.result in
    let v : List Piece = c.args.self.now.before in
    let u : List Piece = c.args.self.now.behind in
    let is : pieces_of s items ≡ v = ap (λ (k : Chunked). k.before) c.self.view_is in
    let rest : pieces_of s ys ≡ u = ap (λ (k : Chunked). k.behind) c.self.view_is in
    let split : items ≡ w ∷ xs = c.pop_front.ensures.items ∙ ap (λ (o : Option Laid). option_to_list o ++ xs) c.unwrap-first.ensures in
    let tied : IsTied s (w ∷ (xs ++ ys)) = subst (λ (zs : List Laid). IsTied s (zs ++ ys)) split c.self.invariant.0 in
    let on : IsOn s w = here_on s [] (xs ++ ys) w tied in
    let long : length (Piece.bytes (piece_of s w)) ≡ w.len = long_piece s w on in
    let one : piece_of s w ≡ slice_index_or v 0 (piece_of s w) = first_is s items xs w v (piece_of s w) is split in
    let from : w.at ≤ c.args.from = omega (arith, ap Piece.at one, c.requires.from (piece_of s w)) in
    let fits : c.args.from ≤ w.at + w.len = omega (arith, ap end_of one, long, c.requires.to (piece_of s w)) in
    λ d.
    ap (pieces_of s) c.push_front_reserved.ensures.items
    ∙ ap (λ (ps : List Piece). piece_of s c.tail.result ∷ ps) (rest_is s items xs w v is split)
    ∙ ap (λ (p : Piece). p ∷ drop 1 v) (ap (piece_of s) c.tail.ensures ∙ tail_piece s w c.args.from from fits ∙ ap (λ (p : Piece). tail_from p c.args.from) (first_is s items xs w v d is split))

pub returns-clause-behind : goal.returns-clause-behind
returns-clause-behind c =
    ap (pieces_of c.self.inside.shelf) (c.push_front_reserved.ensures.behind ∙ c.pop_front.ensures.behind) ∙ ap (λ (k : Chunked). k.behind) c.self.view_is
