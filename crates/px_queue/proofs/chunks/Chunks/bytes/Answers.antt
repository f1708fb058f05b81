use Rattle.std.proofs.Common.{◌≡◌, ◌+◌, ◌-◌, ◌<◌, ◌≤◌, ℕ, ap, sym, subst, ◌∙◌, List, arith, take, drop, length, length-take, length-drop}
use Rattle.std.specs.Prelude.{slice_index_or}
use Rattle.px_block.specs.Shelved.{Shelves, under, references_to, bytes_of}
use Rattle.px_queue.specs.Laid.{Laid, Chunked, IsOn, pieces_of, piece_of}
use Rattle.px_queue.specs.Pieces.{Piece, end_of}
use Rattle.px_queue.proofs.Tied.{long_piece, all_left}
use Rattle.px_queue.proofs.Numbered.{some_pieces, piece_get, on_get, there_get, part_of}
use Rattle.px_queue.proofs.chunks.Chunks.bytes.Goals as goal

pub overflow_sub-place : goal.overflow_sub-place
overflow_sub-place c =
    let s : Shelves = c.self.inside.shelf in
    let items : List Laid = c.self.inside.list.before in
    let ys : List Laid = c.self.inside.list.behind in
    let v : List Piece = c.args.self.now.before in
    let is : pieces_of s items ≡ v = ap (λ (k : Chunked). k.before) c.self.view_is in
    let w : Laid = c.get-chunk.result in
    let place : c.place.result ≡ w.place = c.place.ensures.value in
    let few : c.args.k < length items = omega (arith, some_pieces s items v is, c.requires.some) in
    let on : IsOn s w = on_get s items c.args.k w (all_left (IsOn s) items ys c.self.invariant.0.on) few c.get-chunk.ensures in
    let long : length (Piece.bytes (piece_of s w)) ≡ w.len = long_piece s w on in
    let one : piece_of s w ≡ slice_index_or v c.args.k (piece_of s w) = piece_get s items c.args.k w v (piece_of s w) is few c.get-chunk.ensures in
    let first : c.first.result ≡ w.at = c.first.ensures.value in
    let from : w.at ≤ c.args.from = omega (arith, ap Piece.at one, c.requires.from (piece_of s w)) in
    let fits : c.args.from + c.args.len ≤ w.at + w.len = omega (arith, ap end_of one, c.requires.inside (piece_of s w)) in
    omega (arith, from, first)

pub overflow_cast-place : goal.overflow_cast-place
overflow_cast-place c =
    let s : Shelves = c.self.inside.shelf in
    let items : List Laid = c.self.inside.list.before in
    let ys : List Laid = c.self.inside.list.behind in
    let v : List Piece = c.args.self.now.before in
    let is : pieces_of s items ≡ v = ap (λ (k : Chunked). k.before) c.self.view_is in
    let w : Laid = c.get-chunk.result in
    let place : c.place.result ≡ w.place = c.place.ensures.value in
    let few : c.args.k < length items = omega (arith, some_pieces s items v is, c.requires.some) in
    let on : IsOn s w = on_get s items c.args.k w (all_left (IsOn s) items ys c.self.invariant.0.on) few c.get-chunk.ensures in
    let long : length (Piece.bytes (piece_of s w)) ≡ w.len = long_piece s w on in
    let one : piece_of s w ≡ slice_index_or v c.args.k (piece_of s w) = piece_get s items c.args.k w v (piece_of s w) is few c.get-chunk.ensures in
    let first : c.first.result ≡ w.at = c.first.ensures.value in
    let from : w.at ≤ c.args.from = omega (arith, ap Piece.at one, c.requires.from (piece_of s w)) in
    let fits : c.args.from + c.args.len ≤ w.at + w.len = omega (arith, ap end_of one, c.requires.inside (piece_of s w)) in
    omega (arith, from, first, fits, c.place.ensures.few)

pub overflow_add-place : goal.overflow_add-place
overflow_add-place c =
    let s : Shelves = c.self.inside.shelf in
    let items : List Laid = c.self.inside.list.before in
    let ys : List Laid = c.self.inside.list.behind in
    let v : List Piece = c.args.self.now.before in
    let is : pieces_of s items ≡ v = ap (λ (k : Chunked). k.before) c.self.view_is in
    let w : Laid = c.get-chunk.result in
    let place : c.place.result ≡ w.place = c.place.ensures.value in
    let few : c.args.k < length items = omega (arith, some_pieces s items v is, c.requires.some) in
    let on : IsOn s w = on_get s items c.args.k w (all_left (IsOn s) items ys c.self.invariant.0.on) few c.get-chunk.ensures in
    let long : length (Piece.bytes (piece_of s w)) ≡ w.len = long_piece s w on in
    let one : piece_of s w ≡ slice_index_or v c.args.k (piece_of s w) = piece_get s items c.args.k w v (piece_of s w) is few c.get-chunk.ensures in
    let first : c.first.result ≡ w.at = c.first.ensures.value in
    let from : w.at ≤ c.args.from = omega (arith, ap Piece.at one, c.requires.from (piece_of s w)) in
    let fits : c.args.from + c.args.len ≤ w.at + w.len = omega (arith, ap end_of one, c.requires.inside (piece_of s w)) in
    omega (arith, from, first, fits, c.place.ensures.few, place)

pub bytes-requires-clause-there : goal.bytes-requires-clause-there
bytes-requires-clause-there c =
    let s : Shelves = c.self.inside.shelf in
    let items : List Laid = c.self.inside.list.before in
    let ys : List Laid = c.self.inside.list.behind in
    let v : List Piece = c.args.self.now.before in
    let is : pieces_of s items ≡ v = ap (λ (k : Chunked). k.before) c.self.view_is in
    let w : Laid = c.get-chunk.result in
    let place : c.place.result ≡ w.place = c.place.ensures.value in
    let few : c.args.k < length items = omega (arith, some_pieces s items v is, c.requires.some) in
    let on : IsOn s w = on_get s items c.args.k w (all_left (IsOn s) items ys c.self.invariant.0.on) few c.get-chunk.ensures in
    let long : length (Piece.bytes (piece_of s w)) ≡ w.len = long_piece s w on in
    let one : piece_of s w ≡ slice_index_or v c.args.k (piece_of s w) = piece_get s items c.args.k w v (piece_of s w) is few c.get-chunk.ensures in
    let first : c.first.result ≡ w.at = c.first.ensures.value in
    let from : w.at ≤ c.args.from = omega (arith, ap Piece.at one, c.requires.from (piece_of s w)) in
    let fits : c.args.from + c.args.len ≤ w.at + w.len = omega (arith, ap end_of one, c.requires.inside (piece_of s w)) in
    subst (λ (k : ℕ). 1 ≤ references_to (under s k)) (sym c.key.ensures) (there_get s items ys c.args.k w c.self.invariant.0 few c.get-chunk.ensures)

pub bytes-requires-clause-inside : goal.bytes-requires-clause-inside
bytes-requires-clause-inside c =
    let s : Shelves = c.self.inside.shelf in
    let items : List Laid = c.self.inside.list.before in
    let ys : List Laid = c.self.inside.list.behind in
    let v : List Piece = c.args.self.now.before in
    let is : pieces_of s items ≡ v = ap (λ (k : Chunked). k.before) c.self.view_is in
    let w : Laid = c.get-chunk.result in
    let place : c.place.result ≡ w.place = c.place.ensures.value in
    let few : c.args.k < length items = omega (arith, some_pieces s items v is, c.requires.some) in
    let on : IsOn s w = on_get s items c.args.k w (all_left (IsOn s) items ys c.self.invariant.0.on) few c.get-chunk.ensures in
    let long : length (Piece.bytes (piece_of s w)) ≡ w.len = long_piece s w on in
    let one : piece_of s w ≡ slice_index_or v c.args.k (piece_of s w) = piece_get s items c.args.k w v (piece_of s w) is few c.get-chunk.ensures in
    let first : c.first.result ≡ w.at = c.first.ensures.value in
    let from : w.at ≤ c.args.from = omega (arith, ap Piece.at one, c.requires.from (piece_of s w)) in
    let fits : c.args.from + c.args.len ≤ w.at + w.len = omega (arith, ap end_of one, c.requires.inside (piece_of s w)) in
    subst (λ (k : ℕ). c.place.result + (c.args.from - c.first.result) + c.args.len ≤ length (bytes_of (under s k))) (sym c.key.ensures) (omega (arith, from, first, fits, place, on))

pub returns-clause-size : goal.returns-clause-size
returns-clause-size c =
    let s : Shelves = c.self.inside.shelf in
    let items : List Laid = c.self.inside.list.before in
    let ys : List Laid = c.self.inside.list.behind in
    let v : List Piece = c.args.self.now.before in
    let is : pieces_of s items ≡ v = ap (λ (k : Chunked). k.before) c.self.view_is in
    let w : Laid = c.get-chunk.result in
    let place : c.place.result ≡ w.place = c.place.ensures.value in
    let few : c.args.k < length items = omega (arith, some_pieces s items v is, c.requires.some) in
    let on : IsOn s w = on_get s items c.args.k w (all_left (IsOn s) items ys c.self.invariant.0.on) few c.get-chunk.ensures in
    let long : length (Piece.bytes (piece_of s w)) ≡ w.len = long_piece s w on in
    let one : piece_of s w ≡ slice_index_or v c.args.k (piece_of s w) = piece_get s items c.args.k w v (piece_of s w) is few c.get-chunk.ensures in
    let first : c.first.result ≡ w.at = c.first.ensures.value in
    let from : w.at ≤ c.args.from = omega (arith, ap Piece.at one, c.requires.from (piece_of s w)) in
    let fits : c.args.from + c.args.len ≤ w.at + w.len = omega (arith, ap end_of one, c.requires.inside (piece_of s w)) in
    let bs : List ℕ = bytes_of (under s w.key) in
    let at : ℕ = c.place.result + (c.args.from - c.first.result) in
    let same : c.bytes.result.now ≡ take (c.args.len) (drop at bs) = c.bytes.ensures ∙ ap (λ (k : ℕ). take (c.args.len) (drop at (bytes_of (under s k)))) c.key.ensures in
    omega (arith, ap length same, length-take (c.args.len) (drop at bs), length-drop at bs, on, place, first, from, fits)

pub returns-clause-value : goal.returns-clause-value
returns-clause-value c =
    let s : Shelves = c.self.inside.shelf in
    let items : List Laid = c.self.inside.list.before in
    let ys : List Laid = c.self.inside.list.behind in
    let v : List Piece = c.args.self.now.before in
    let is : pieces_of s items ≡ v = ap (λ (k : Chunked). k.before) c.self.view_is in
    let w : Laid = c.get-chunk.result in
    let place : c.place.result ≡ w.place = c.place.ensures.value in
    let few : c.args.k < length items = omega (arith, some_pieces s items v is, c.requires.some) in
    let on : IsOn s w = on_get s items c.args.k w (all_left (IsOn s) items ys c.self.invariant.0.on) few c.get-chunk.ensures in
    let long : length (Piece.bytes (piece_of s w)) ≡ w.len = long_piece s w on in
    let one : piece_of s w ≡ slice_index_or v c.args.k (piece_of s w) = piece_get s items c.args.k w v (piece_of s w) is few c.get-chunk.ensures in
    let first : c.first.result ≡ w.at = c.first.ensures.value in
    let from : w.at ≤ c.args.from = omega (arith, ap Piece.at one, c.requires.from (piece_of s w)) in
    let fits : c.args.from + c.args.len ≤ w.at + w.len = omega (arith, ap end_of one, c.requires.inside (piece_of s w)) in
    let n : ℕ = c.args.len in
    let at : c.place.result + (c.args.from - c.first.result) ≡ w.place + (c.args.from - w.at) = omega (arith, place, first) in
    λ d. c.bytes.ensures
    ∙ ap (λ (k : ℕ). take n (drop (c.place.result + (c.args.from - c.first.result)) (bytes_of (under s k)))) c.key.ensures
    ∙ ap (λ (m : ℕ). take n (drop m (bytes_of (under s w.key)))) at
    ∙ part_of (bytes_of (under s w.key)) w.place w.len (c.args.from - w.at) n (omega (arith, from, fits))
    ∙ ap (λ (p : Piece). take n (drop (c.args.from - p.at) p.bytes)) (piece_get s items c.args.k w v d is few c.get-chunk.ensures)
