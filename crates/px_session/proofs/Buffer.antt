-- A buffer whose bytes are moved to the front, and filled behind them.
use Rattle.std.proofs.Common.{◌≡◌, ℕ, ◌+◌, ◌-◌, ◌≤◌, List, [], ◌++◌, length, take, drop, ap, sym, ◌∙◌, arith, length-take, length-drop}
use Rattle.std.proofs.Math.ListN.{drop_of_length-le}
use Rattle.std.proofs.lemmas.List.{append-nil, take_all, drop-drop, drop-take}
use borrow.Rule.Slice.PartMut.{put_mid, mid_of, same_len_mid}
use Rattle.px_ends.proofs.Filling.{front_of_filled}

-- a vector that was written as a slice of its own length has what was written
pub vec_whole : (len : ℕ) (written items : List ℕ) → length written ≡ length items → len ≡ length items → take len (written ++ drop (length written) items) ≡ written
vec_whole len written items same size =
    let none_left : drop (length written) items ≡ [] = drop_of_length-le items (omega (arith, same)) in
    ap (λ (rest : List ℕ). take len (written ++ rest)) none_left
    ∙ ap (take len) (append-nil written)
    ∙ take_all len written (omega (arith, same, size))

-- the first k of a buffer with room are those of a vector that were moved to its front
pub stays : (k from len : ℕ) (buffer made moved slice items held : List ℕ) → length moved ≡ length items → len ≡ length items → buffer ≡ made → take k made ≡ take k (take len (moved ++ drop (length moved) items)) → take k moved ≡ take k (drop from slice) → slice ≡ items → take k (drop from items) ≡ held
    → take k buffer ≡ held
stays k from len buffer made moved slice items held same size with_room held_bytes front whole seen =
    ap (take k) with_room
    ∙ held_bytes
    ∙ ap (take k) (vec_whole len moved items same size)
    ∙ front
    ∙ ap (λ (bytes : List ℕ). take k (drop from bytes)) whole
    ∙ seen

-- so many bytes came behind the first k
pub came : (k n len : ℕ) (items buffer part : List ℕ) → k ≤ length buffer → n ≤ length part → length part ≡ length (mid_of k (length buffer - k) buffer) → buffer ≡ items → len ≡ length items
    → take ((k + n) - 0) (drop 0 (take len (put_mid k (length buffer - k) buffer part ++ drop (length (put_mid k (length buffer - k) buffer part)) items))) ≡ take k buffer ++ take n part
came k n len items buffer part inside few size same long =
    let put = put_mid k (length buffer - k) buffer part in
    let whole : take len (put ++ drop (length put) items) ≡ put = vec_whole len put items (same_len_mid k (length buffer - k) buffer part size ∙ ap (length {A = ℕ}) same) long in
    let count : (k + n) - 0 ≡ k + n = omega arith in
    ap (λ (bytes : List ℕ). take ((k + n) - 0) bytes) whole
    ∙ ap (λ (m : ℕ). take m put) count
    ∙ front_of_filled buffer part k n inside few

-- a vector whose bytes behind the first k were written keeps its length
pub whole_length : (k len : ℕ) (items buffer part : List ℕ) → length part ≡ length (mid_of k (length buffer - k) buffer) → buffer ≡ items → len ≡ length items
    → length (take len (put_mid k (length buffer - k) buffer part ++ drop (length (put_mid k (length buffer - k) buffer part)) items)) ≡ length buffer
whole_length k len items buffer part size same long =
    let put = put_mid k (length buffer - k) buffer part in
    let as_long : length put ≡ length buffer = same_len_mid k (length buffer - k) buffer part size in
    ap (length {A = ℕ}) (vec_whole len put items (as_long ∙ ap (length {A = ℕ}) same) long) ∙ as_long

-- what came fits behind the first k
pub fits_behind : (k n : ℕ) (buffer part : List ℕ) → k ≤ length buffer → n ≤ length part → length part ≡ length (mid_of k (length buffer - k) buffer) → k + n ≤ length buffer
fits_behind k n buffer part inside few size = omega (arith, inside, few, size, length-take (length buffer - k) (drop k buffer), length-drop k buffer)

-- where none came, the first k are as they were
pub none_came : (k len : ℕ) (items buffer part held : List ℕ) → k ≤ length buffer → length part ≡ length (mid_of k (length buffer - k) buffer) → buffer ≡ items → len ≡ length items → take k buffer ≡ held
    → take (k - 0) (drop 0 (take len (put_mid k (length buffer - k) buffer part ++ drop (length (put_mid k (length buffer - k) buffer part)) items))) ≡ held
none_came k len items buffer part held inside size same long held_bytes =
    let whole = take len (put_mid k (length buffer - k) buffer part ++ drop (length (put_mid k (length buffer - k) buffer part)) items) in
    let count : k - 0 ≡ (k + 0) - 0 = omega arith in
    ap (λ (m : ℕ). take m (drop 0 whole)) count
    ∙ came k 0 len items buffer part inside (omega arith) size same long
    ∙ append-nil (take k buffer)
    ∙ held_bytes

-- what is left behind the first n of the bytes between two places
pub used : (from to n : ℕ) (items : List ℕ) → n ≤ to - from → take (to - (from + n)) (drop (from + n) items) ≡ drop n (take (to - from) (drop from items))
used from to n items few =
    let count : to - from ≡ n + (to - (from + n)) = omega arith in
    ap (take (to - (from + n))) (sym (drop-drop n from items))
    ∙ sym (drop-take n (to - (from + n)) (drop from items))
    ∙ ap (λ (m : ℕ). drop n (take m (drop from items))) (sym count)
