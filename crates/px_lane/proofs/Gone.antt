-- Bytes behind those that were given up.
use Rattle.std.proofs.Common.{◌≡◌, ℕ, ◌+◌, ◌-◌, ◌*◌, ◌≤◌, List, ◌++◌, length, take, drop, ap, sym, ◌∙◌, arith, drop-drop, append_assoc, length-append, length-drop}
use Rattle.std.proofs.Math.Seq.{take-append-add}
use Rattle.std.proofs.lemmas.List.{take-take, drop-take, take-append-le, drop-append-le, take_all, length-take-le}

-- of the bytes that are held those behind the first ones
pub held_behind : (size gone count : ℕ) (bytes : List ℕ) → count ≤ size
    → drop count (take size (drop gone bytes)) ≡ take (size - count) (drop (gone + count) bytes)
held_behind size gone count bytes few =
    let all : size ≡ count + (size - count) = omega (arith, few) in
    ap (λ (n : ℕ). drop count (take n (drop gone bytes))) all
    ∙ drop-take count (size - count) (drop gone bytes)
    ∙ ap (λ (xs : List ℕ). take (size - count) xs) (drop-drop count gone bytes)

-- where so many more are given up, the others stay
pub left_behind : (size gone count : ℕ) (bytes : List ℕ) → count ≤ size
    → take (size - count) (take size (drop (gone + count) bytes)) ≡ drop count (take size (drop gone bytes))
left_behind size gone count bytes few =
    take-take (size - count) size (drop (gone + count) bytes) (omega arith) ∙ sym (held_behind size gone count bytes few)

-- so many are held
pub held_all : (size gone : ℕ) (bytes : List ℕ) → gone ≤ size → length bytes ≡ 2 * size → length (take size (drop gone bytes)) ≡ size
held_all size gone bytes near long = length-take-le size (drop gone bytes) (omega (arith, near, long, length-drop gone bytes))

-- others in place of the last ones that are held
pub packed_behind : (size gone at : ℕ) (old packed : List ℕ) → gone ≤ size → length old ≡ 2 * size → at + length packed ≡ size
    → take size (drop gone (take (gone + at) old ++ (packed ++ drop (gone + size) old))) ≡ take at (take size (drop gone old)) ++ packed
packed_behind size gone at old packed near long fit =
    let front : length (take (gone + at) old) ≡ gone + at = length-take-le (gone + at) old (omega (arith, near, long, fit)) in
    let staying : length (take at (drop gone old)) ≡ at = length-take-le at (drop gone old) (omega (arith, near, long, fit, length-drop gone old)) in
    let both : length (take at (drop gone old) ++ packed) ≡ size = length-append (take at (drop gone old)) packed ∙ ap (λ (n : ℕ). n + length packed) staying ∙ fit in
    ap (λ (xs : List ℕ). take size xs)
    (drop-append-le gone (take (gone + at) old) (packed ++ drop (gone + size) old) (omega (arith, front))
    ∙ ap (λ (xs : List ℕ). xs ++ (packed ++ drop (gone + size) old)) (drop-take gone at old)
    ∙ sym (append_assoc (take at (drop gone old)) packed (drop (gone + size) old)))
    ∙ take-append-le size (take at (drop gone old) ++ packed) (drop (gone + size) old) (omega (arith, both))
    ∙ take_all size (take at (drop gone old) ++ packed) (omega (arith, both))
    ∙ ap (λ (xs : List ℕ). xs ++ packed) (sym (take-take at size (drop gone old) (omega (arith, fit))))

-- the same of what the bytes are then
pub packed_in_place : (size gone at : ℕ) (old new packed : List ℕ) → gone ≤ size → length old ≡ 2 * size → at ≤ size → length new ≡ length old
    → new ≡ take (gone + at) old ++ (packed ++ drop (gone + size) old) → take size (drop gone new) ≡ take at (take size (drop gone old)) ++ packed
packed_in_place size gone at old new packed near long inside same made =
    let front : length (take (gone + at) old) ≡ gone + at = length-take-le (gone + at) old (omega (arith, near, long, inside)) in
    let whole : length new ≡ length (take (gone + at) old) + (length packed + length (drop (gone + size) old)) =
    ap (λ (xs : List ℕ). length xs) made
    ∙ length-append (take (gone + at) old) (packed ++ drop (gone + size) old)
    ∙ ap (λ (n : ℕ). length (take (gone + at) old) + n) (length-append packed (drop (gone + size) old)) in
    let fit : at + length packed ≡ size = omega (arith, near, long, same, front, whole, length-drop (gone + size) old) in
    ap (λ (xs : List ℕ). take size (drop gone xs)) made ∙ packed_behind size gone at old packed near long fit

-- others in place of some of those that are held
pub packed_between : (size gone at end : ℕ) (old new packed : List ℕ) → gone ≤ size → length old ≡ 2 * size → at ≤ end → end ≤ size → length new ≡ length old
    → new ≡ take (gone + at) old ++ (packed ++ drop (gone + end) old) → take size (drop gone new) ≡ take at (take size (drop gone old)) ++ (packed ++ drop end (take size (drop gone old)))
packed_between size gone at end old new packed near long order inside same made =
    let front : length (take (gone + at) old) ≡ gone + at = length-take-le (gone + at) old (omega (arith, near, long, order, inside)) in
    let staying : length (take at (drop gone old)) ≡ at = length-take-le at (drop gone old) (omega (arith, near, long, order, inside, length-drop gone old)) in
    let whole : length new ≡ length (take (gone + at) old) + (length packed + length (drop (gone + end) old)) =
    ap (λ (xs : List ℕ). length xs) made
    ∙ length-append (take (gone + at) old) (packed ++ drop (gone + end) old)
    ∙ ap (λ (n : ℕ). length (take (gone + at) old) + n) (length-append packed (drop (gone + end) old)) in
    let next : end ≡ at + length packed = omega (arith, near, long, order, inside, same, front, whole, length-drop (gone + end) old) in
    let last : size ≡ at + (length packed + (size - end)) = omega (arith, next, inside) in
    ap (λ (xs : List ℕ). take size (drop gone xs)) made
    ∙ ap (λ (xs : List ℕ). take size xs)
    (drop-append-le gone (take (gone + at) old) (packed ++ drop (gone + end) old) (omega (arith, front))
    ∙ ap (λ (xs : List ℕ). xs ++ (packed ++ drop (gone + end) old)) (drop-take gone at old))
    ∙ ap (λ (n : ℕ). take n (take at (drop gone old) ++ (packed ++ drop (gone + end) old))) (last ∙ ap (λ (n : ℕ). n + (length packed + (size - end))) (sym staying))
    ∙ take-append-add (take at (drop gone old)) (packed ++ drop (gone + end) old) (length packed + (size - end))
    ∙ ap (λ (xs : List ℕ). take at (drop gone old) ++ xs) (take-append-add packed (drop (gone + end) old) (size - end))
    ∙ ap (λ (xs : List ℕ). xs ++ (packed ++ take (size - end) (drop (gone + end) old))) (sym (take-take at size (drop gone old) (omega (arith, next, inside))))
    ∙ ap (λ (xs : List ℕ). take at (take size (drop gone old)) ++ (packed ++ xs)) (sym (held_behind size gone end old inside))
