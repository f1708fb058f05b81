-- Chunks on a shelf, by their numbers: the first, the last, and any; and their parts.
use Rattle.std.proofs.Common.{◌≡◌, ℕ, zero, suc, ◌+◌, ◌-◌, ◌<◌, ◌≤◌, List, [], ◌∷◌, ◌++◌, length, take, drop, refl, ap, sym, ◌∙◌, subst, arith}
use Rattle.std.specs.Prelude.{slice_index_or}
use Rattle.std.specs.List.{AllByRecursion}
use Rattle.std.proofs.lemmas.List.{append_assoc, map-append, take-take, drop-take, drop-drop, length-map, get_or-map}
use Rattle.px_block.specs.Shelved.{Shelves, under, references_to, bytes_of}
use Rattle.px_queue.specs.Pieces.{Piece, end_of, front_of, last_of, head_to, tail_from}
use Rattle.px_queue.proofs.Bytes.{front_more, last_more}
use Rattle.px_queue.specs.Laid.{Laid, piece_of, pieces_of, IsOn, refs_of, IsTied}
use Rattle.px_queue.proofs.Tied.{refs_both, refs_first, here_on, long_piece}

-- ---- the last chunk, and the first

pub front_map : (s : Shelves) (items xs : List Laid) (c : Laid) → items ≡ xs ++ c ∷ [] → front_of (pieces_of s items) ≡ pieces_of s xs
front_map s items xs c e =
    ap (λ (is : List Laid). front_of (pieces_of s is)) e
    ∙ ap front_of (map-append (piece_of s) xs (c ∷ []))
    ∙ front_more (pieces_of s xs) (piece_of s c)

pub last_map : (s : Shelves) (items xs : List Laid) (c : Laid) → items ≡ xs ++ c ∷ [] → last_of (pieces_of s items) ≡ piece_of s c
last_map s items xs c e =
    ap (λ (is : List Laid). last_of (pieces_of s is)) e
    ∙ ap last_of (map-append (piece_of s) xs (c ∷ []))
    ∙ last_more (pieces_of s xs) (piece_of s c)

pub more_map : (s : Shelves) (items xs : List Laid) (c : Laid) → items ≡ xs ++ c ∷ [] → pieces_of s items ≡ pieces_of s xs ++ piece_of s c ∷ []
more_map s items xs c e = ap (pieces_of s) e ∙ map-append (piece_of s) xs (c ∷ [])

pub front_is : (s : Shelves) (items xs : List Laid) (c : Laid) (v : List Piece) → pieces_of s items ≡ v → items ≡ xs ++ c ∷ [] → pieces_of s xs ≡ front_of v
front_is s items xs c v e is = sym (front_map s items xs c is) ∙ ap front_of e

pub last_is : (s : Shelves) (items xs : List Laid) (c : Laid) (v : List Piece) → pieces_of s items ≡ v → items ≡ xs ++ c ∷ [] → piece_of s c ≡ last_of v
last_is s items xs c v e is = sym (last_map s items xs c is) ∙ ap last_of e

-- the chunks with the last of those before between
pub middle : (items xs ys : List Laid) (c : Laid) → items ≡ xs ++ c ∷ [] → items ++ ys ≡ xs ++ c ∷ ys
middle items xs ys c is = ap (λ (zs : List Laid). zs ++ ys) is ∙ append_assoc xs (c ∷ []) ys

pub tied_middle : (s : Shelves) (items xs ys : List Laid) (c : Laid) → items ≡ xs ++ c ∷ [] → IsTied s (items ++ ys) → IsTied s (xs ++ c ∷ ys)
tied_middle s items xs ys c is tied = subst (IsTied s) (middle items xs ys c is) tied

pub tied_whole : (s : Shelves) (items xs ys : List Laid) (c : Laid) → items ≡ xs ++ c ∷ [] → IsTied s (xs ++ c ∷ ys) → IsTied s (items ++ ys)
tied_whole s items xs ys c is tied = subst (IsTied s) (sym (middle items xs ys c is)) tied

-- where the last one begins and ends
pub last_at : (s : Shelves) (items xs : List Laid) (c : Laid) (v : List Piece) → pieces_of s items ≡ v → items ≡ xs ++ c ∷ [] → c.at ≡ (last_of v).at
last_at s items xs c v e is = ap Piece.at (last_is s items xs c v e is)

pub last_end_at : (s : Shelves) (items xs ys : List Laid) (c : Laid) (v : List Piece) → pieces_of s items ≡ v → items ≡ xs ++ c ∷ [] → IsTied s (items ++ ys) → c.at + c.len ≡ end_of (last_of v)
last_end_at s items xs ys c v e is tied =
    let long : length (Piece.bytes (piece_of s c)) ≡ c.len = long_piece s c (here_on s xs ys c (tied_middle s items xs ys c is tied)) in
    let same : end_of (piece_of s c) ≡ end_of (last_of v) = ap end_of (last_is s items xs c v e is) in
    omega arith

pub some_pieces : (s : Shelves) (items : List Laid) (v : List Piece) → pieces_of s items ≡ v → length items ≡ length v
some_pieces s items v e = sym (length-map items (piece_of s)) ∙ ap length e

-- the first chunk, and the others
pub first_is : (s : Shelves) (items xs : List Laid) (c : Laid) (v : List Piece) (d : Piece) → pieces_of s items ≡ v → items ≡ c ∷ xs → piece_of s c ≡ slice_index_or v 0 d
first_is s items xs c v d e is = ap (λ (zs : List Laid). slice_index_or (pieces_of s zs) 0 d) (sym is) ∙ ap (λ (ps : List Piece). slice_index_or ps 0 d) e

pub rest_is : (s : Shelves) (items xs : List Laid) (c : Laid) (v : List Piece) → pieces_of s items ≡ v → items ≡ c ∷ xs → pieces_of s xs ≡ drop 1 v
rest_is s items xs c v e is = ap (λ (zs : List Laid). drop 1 (pieces_of s zs)) (sym is) ∙ ap (drop 1) e

-- the first chunks, and those after them
pub pieces_take : (s : Shelves) (items : List Laid) (k : ℕ) → pieces_of s (take k items) ≡ take k (pieces_of s items)
pieces_take s items zero = refl
pieces_take s [] (suc k) = refl
pieces_take s (c ∷ items) (suc k) = ap (λ (ps : List Piece). piece_of s c ∷ ps) (pieces_take s items k)

pub pieces_drop : (s : Shelves) (items : List Laid) (k : ℕ) → pieces_of s (drop k items) ≡ drop k (pieces_of s items)
pieces_drop s items zero = refl
pieces_drop s [] (suc k) = refl
pieces_drop s (c ∷ items) (suc k) = pieces_drop s items k

-- ---- a chunk by its number

pub piece_get : (s : Shelves) (items : List Laid) (k : ℕ) (c : Laid) (v : List Piece) (d : Piece) → pieces_of s items ≡ v → k < length items → c ≡ slice_index_or items k c → piece_of s c ≡ slice_index_or v k d
piece_get s items k c v d e few is =
    ap (piece_of s) is ∙ sym (get_or-map (piece_of s) items k c d few) ∙ ap (λ (ps : List Piece). slice_index_or ps k d) e

pub on_get : (s : Shelves) (items : List Laid) (k : ℕ) (c : Laid) → AllByRecursion (IsOn s) items → k < length items → c ≡ slice_index_or items k c → IsOn s c
on_get s [] k c on few is = absurd (omega arith)
on_get s (x ∷ items) zero c on few is = subst (IsOn s) (sym is) on.0
on_get s (x ∷ items) (suc k) c on few is = on_get s items k c on.1 (omega arith) is

pub refs_get : (items : List Laid) (k : ℕ) (c : Laid) → k < length items → c ≡ slice_index_or items k c → 1 ≤ refs_of c.key items
refs_get [] k c few is = absurd (omega arith)
refs_get (x ∷ items) zero c few is = subst (λ (y : Laid). 1 ≤ refs_of y.key (x ∷ items)) (sym is) (refs_first x items)
refs_get (x ∷ items) (suc k) c few is = let rest : 1 ≤ refs_of c.key items = refs_get items k c (omega arith) is in omega arith

pub there_get : (s : Shelves) (items ys : List Laid) (k : ℕ) (c : Laid) → IsTied s (items ++ ys) → k < length items → c ≡ slice_index_or items k c → 1 ≤ references_to (under s c.key)
there_get s items ys k c tied few is =
    let some : 1 ≤ refs_of c.key items = refs_get items k c few is in
    omega (arith, tied.counted c.key, refs_both c.key items ys)

-- ---- parts of a chunk

-- its parts by the byte index of a cut
pub head_piece : (s : Shelves) (c : Laid) (to : ℕ) → to ≤ c.at + c.len → piece_of s (record c { len = to - c.at }) ≡ head_to (piece_of s c) to
head_piece s c to h =
    ap (λ (bs : List ℕ). record { at = c.at; bytes = bs }) (sym (take-take (to - c.at) c.len (drop c.place (bytes_of (under s c.key))) (omega arith)))

pub tail_piece : (s : Shelves) (c : Laid) (from : ℕ) → c.at ≤ from → from ≤ c.at + c.len
    → piece_of s (record c { at = from; place = c.place + (from - c.at); len = c.len - (from - c.at) }) ≡ tail_from (piece_of s c) from
tail_piece s c from h l =
    let bs = bytes_of (under s c.key) in
    let same : (from - c.at) + (c.len - (from - c.at)) ≡ c.len = omega arith in
    ap (λ (xs : List ℕ). record { at = from; bytes = xs })
    (ap (take (c.len - (from - c.at))) (sym (drop-drop (from - c.at) c.place bs))
    ∙ sym (drop-take (from - c.at) (c.len - (from - c.at)) (drop c.place bs))
    ∙ ap (λ (n : ℕ). drop (from - c.at) (take n (drop c.place bs))) same)

-- a part of a chunk's bytes
pub part_of : (bs : List ℕ) (place len k n : ℕ) → k + n ≤ len → take n (drop (place + k) bs) ≡ take n (drop k (take len (drop place bs)))
part_of bs place len k n fit =
    ap (take n) (sym (drop-drop k place bs))
    ∙ sym (drop-take k n (drop place bs))
    ∙ ap (drop k) (sym (take-take (k + n) len (drop place bs) fit))
    ∙ drop-take k n (take len (drop place bs))
