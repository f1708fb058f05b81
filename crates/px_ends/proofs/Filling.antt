-- A buffer that is filled from a place on, in pieces.
use Rattle.std.proofs.Common.{◌≡◌, ℕ, ◌+◌, ◌-◌, ◌≤◌, List, ◌++◌, length, take, drop, ap, sym, ◌∙◌, arith, subst, length-drop}
use Rattle.std.proofs.Math.Seq.{take-append-add, take-add}
use Rattle.std.proofs.lemmas.List.{take-append-le, length-take-le, take_all, take-append-drop, drop-drop}
use borrow.Rule.Slice.PartMut.{put_mid, post_of}

-- the rest of a buffer from a place on was written: its front is what was there, and then the front of the part
pub front_of_filled : (buffer part : List ℕ) (filled n : ℕ) → filled ≤ length buffer → n ≤ length part → take (filled + n) (put_mid filled (length buffer - filled) buffer part) ≡ take filled buffer ++ take n part
front_of_filled buffer part filled n fit few =
    let front = take filled buffer in
    let rest = post_of filled (length buffer - filled) buffer in
    let whole = λ (k : ℕ). take (k + n) (front ++ (part ++ rest)) ≡ front ++ take n part in
    subst whole (length-take-le filled buffer fit) (take-append-add front (part ++ rest) n ∙ ap (λ (p : List ℕ). front ++ p) (take-append-le n part rest few))

-- the bytes from a place on, as a slice without an end has them
pub rest_of : (bytes : List ℕ) (from : ℕ) → take (length bytes - from) (drop from bytes) ≡ drop from bytes
rest_of bytes from = take_all (length bytes - from) (drop from bytes) (omega (arith, length-drop from bytes))

pub front_of_more : (bytes : List ℕ) (from n : ℕ) → take from bytes ++ take n (take (length bytes - from) (drop from bytes)) ≡ take (from + n) bytes
front_of_more bytes from n = ap (λ (rest : List ℕ). take from bytes ++ take n rest) (rest_of bytes from) ∙ sym (take-add from n bytes)

pub within_rest : (bytes : List ℕ) (from n : ℕ) → from ≤ length bytes → n ≤ length (take (length bytes - from) (drop from bytes)) → from + n ≤ length bytes
within_rest bytes from n inside few = omega (arith, few, inside, ap (length {A = ℕ}) (rest_of bytes from), length-drop from bytes)

-- n bytes departed from those behind a place, and the buffer has them at its front
pub departed : (bytes buffer : List ℕ) (at n : ℕ) → take n buffer ≡ take n (take (length bytes - at) (drop at bytes)) → drop at bytes ≡ take n buffer ++ drop (at + n) bytes
departed bytes buffer at n same =
    sym (take-append-drop n (drop at bytes))
    ∙ ap (λ (rest : List ℕ). take n (drop at bytes) ++ rest) (drop-drop n at bytes)
    ∙ ap (λ (front : List ℕ). front ++ drop (at + n) bytes) (sym (same ∙ ap (take n) (rest_of bytes at)))
