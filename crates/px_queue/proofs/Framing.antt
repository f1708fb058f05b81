-- Frames by their bytes, and what is held by its frames.
use Rattle.std.proofs.Common.{◌≡◌, ℕ, zero, suc, ◌+◌, ◌-◌, ◌*◌, ◌<◌, ◌≤◌, List, [], ◌∷◌, length, take, drop, refl, ap, sym, ◌∙◌, arith, Option, Some, None, ⊎_elim, length-drop}
use Rattle.std.specs.Prelude.{slice_get, ℤ, ◌≤ℤ◌, ◌<ℤ◌}
use Rattle.std.proofs.lemmas.Int.{ints}
use Rattle.std.proofs.lemmas.Bool.{cases_lt}
use Rattle.std.proofs.lemmas.List.FromFn.{length-map-range_with_len}
use Rattle.std.proofs.Math.Nat.{add-mul, mul-le-mul_right}
use Rattle.px_model.specs.Index.{onward, above, FIRST}
use Rattle.px_model.specs.Held.{place, frame_of}
use Rattle.px_model.proofs.Places.{place-range, place_past, place-drop, same_places}
use Rattle.px_model.proofs.Bridge.{frame_from}
use Rattle.px_queue.specs.Pieces.{Piece, byte_at}
use Rattle.px_queue.specs.Framed.{joined, bytes_from, byte_index, framed, held_from, EndsBy}

-- ---- some bytes one after another

pub same_from : (f g : ℕ → Option ℕ) (i n : ℕ) → ((j : ℕ) → i ≤ j → j < i + n → f j ≡ g j) → bytes_from f i n ≡ bytes_from g i n
same_from f g i zero e = refl
same_from f g i (suc n) e =
    let first : f i ≡ g i = e i (omega arith) (omega arith) in
    let rest : bytes_from f (i + 1) n ≡ bytes_from g (i + 1) n = same_from f g (i + 1) n (λ j low high. e j (omega arith) (omega arith)) in
    cc

pub whole_from : (f : ℕ → Option ℕ) (i n : ℕ) (bs : List ℕ) → ((j : ℕ) → j < n → f (i + j) ≡ slice_get bs j) → n ≤ length bs → bytes_from f i n ≡ Some (take n bs)
whole_from f i zero bs e few = refl
whole_from f i (suc n) [] e few = absurd (omega arith)
whole_from f i (suc n) (b ∷ bs) e few =
    let here : i + 0 ≡ i = omega arith in
    let first : f i ≡ Some b = ap f (sym here) ∙ e 0 (omega arith) in
    let rest : bytes_from f (i + 1) n ≡ Some (take n bs) = whole_from f (i + 1) n bs (λ j few. let there : i + 1 + j ≡ i + suc j = omega arith in ap f there ∙ e (suc j) (omega arith)) (omega arith) in
    ap (λ (o : Option ℕ). joined o (bytes_from f (i + 1) n)) first ∙ ap (joined (Some b)) rest

joined_none : (o : Option ℕ) → joined o None ≡ None
joined_none None = refl
joined_none (Some b) = refl

pub none_from : (f : ℕ → Option ℕ) (i n j : ℕ) → j < n → f (i + j) ≡ None → bytes_from f i n ≡ None
none_from f i zero j few e = absurd (omega arith)
none_from f i (suc n) zero few e =
    let here : i + 0 ≡ i = omega arith in
    ap (λ (o : Option ℕ). joined o (bytes_from f (i + 1) n)) (ap f (sym here) ∙ e)
none_from f i (suc n) (suc j) few e =
    let there : i + 1 + j ≡ i + suc j = omega arith in
    ap (joined (f i)) (none_from f (i + 1) n j (omega arith) (ap f there ∙ e)) ∙ joined_none (f i)

-- ---- byte indices

pub place_onward : (size : ℕ) (i : ℤ) (k : ℕ) → FIRST ≤ℤ i → byte_index size (onward i k) ≡ byte_index size i + k * size
place_onward size i k low =
    let e : above (onward i k) FIRST ≡ above i FIRST + k = omega (arith, ints) in
    ap (λ (n : ℕ). n * size) e ∙ add-mul (above i FIRST) k size

pub place_rises : (size : ℕ) (i j : ℤ) → i ≤ℤ j → byte_index size i ≤ byte_index size j
place_rises size i j h =
    let e : above i FIRST ≤ above j FIRST = omega (arith, ints) in
    mul-le-mul_right size e

pub place_after : (size : ℕ) (i j : ℤ) → FIRST ≤ℤ i → i <ℤ j → byte_index size i + size ≤ byte_index size j
place_after size i j low h =
    let next : onward i 1 ≤ℤ j = omega (arith, ints) in
    omega (arith, place_onward size i 1 low, place_rises size (onward i 1) j next)

-- ---- what is held

pub held_length : (size : ℕ) (ps : List Piece) (read : ℤ) (n : ℕ) → length (held_from size ps read n) ≡ n
held_length size ps read n = length-map-range_with_len (λ k. framed size ps (onward read k)) 0 n

pub held_place : (size : ℕ) (ps : List Piece) (read : ℤ) (n : ℕ) → EndsBy size ps read n → (k : ℕ) → place (held_from size ps read n) k ≡ framed size ps (onward read k)
held_place size ps read n ends k =
    ⊎_elim
    (λ (few : k < n). place-range (λ k. framed size ps (onward read k)) 0 n k k few (omega arith))
    (λ (past : n ≤ k). place_past (held_from size ps read n) k (omega (arith, held_length size ps read n)) ∙ sym (ends (onward read k) (omega (arith, ints))))
    (cases_lt k n)

pub held_frame : (size : ℕ) (ps : List Piece) (read : ℤ) (n : ℕ) → EndsBy size ps read n → (i : ℤ) → read ≤ℤ i → frame_of read (held_from size ps read n) i ≡ framed size ps i
held_frame size ps read n ends i from =
    let there : onward read (above i read) ≡ i = omega (arith, ints) in
    frame_from read (held_from size ps read n) i (above i read) (sym there)
    ∙ held_place size ps read n ends (above i read)
    ∙ ap (framed size ps) there

-- the read index moves on
pub held_moved : (size : ℕ) (ps : List Piece) (read : ℤ) (n d : ℕ) → held_from size ps (onward read d) (n - d) ≡ drop d (held_from size ps read n)
held_moved size ps read n d =
    same_places (held_from size ps (onward read d) (n - d)) (drop d (held_from size ps read n))
    (omega (arith, held_length size ps (onward read d) (n - d), held_length size ps read n, length-drop d (held_from size ps read n)))
    (λ k few.
    let less : k < n - d = omega (arith, few, held_length size ps (onward read d) (n - d)) in
    let there : onward (onward read d) k ≡ onward read (d + k) = omega (arith, ints) in
    place-range (λ k. framed size ps (onward (onward read d) k)) 0 (n - d) k k less (omega arith)
    ∙ ap (framed size ps) there
    ∙ sym (place-range (λ k. framed size ps (onward read k)) 0 n (d + k) (d + k) (omega arith) (omega arith))
    ∙ sym (place-drop d (held_from size ps read n) k (d + k) (omega arith)))

pub ends_moved : (size : ℕ) (ps : List Piece) (read : ℤ) (n d : ℕ) → EndsBy size ps read n → EndsBy size ps (onward read d) (n - d)
ends_moved size ps read n d ends i past = ends i (omega (arith, ints, past))

-- the same bytes from the read index on
pub same_frames : (size : ℕ) (ps qs : List Piece) (read : ℤ) → ((j : ℕ) → byte_index size read ≤ j → byte_at ps j ≡ byte_at qs j) → (i : ℤ) → read ≤ℤ i → framed size ps i ≡ framed size qs i
same_frames size ps qs read e i from =
    same_from (byte_at ps) (byte_at qs) (byte_index size i) size (λ j low high. e j (omega (arith, low, place_rises size read i from)))

pub same_held : (size : ℕ) (ps qs : List Piece) (read : ℤ) (n : ℕ) → ((j : ℕ) → byte_index size read ≤ j → byte_at ps j ≡ byte_at qs j) → held_from size ps read n ≡ held_from size qs read n
same_held size ps qs read n e =
    same_places (held_from size ps read n) (held_from size qs read n) (held_length size ps read n ∙ sym (held_length size qs read n))
    (λ k few.
    let less : k < n = omega (arith, few, held_length size ps read n) in
    place-range (λ k. framed size ps (onward read k)) 0 n k k less (omega arith)
    ∙ same_frames size ps qs read e (onward read k) (omega (arith, ints))
    ∙ sym (place-range (λ k. framed size qs (onward read k)) 0 n k k less (omega arith)))

pub same_ends : (size : ℕ) (ps qs : List Piece) (read : ℤ) (n : ℕ) → ((j : ℕ) → byte_index size read ≤ j → byte_at ps j ≡ byte_at qs j) → EndsBy size qs read n → EndsBy size ps read n
same_ends size ps qs read n e ends i past = same_frames size ps qs read e i (omega (arith, ints, past)) ∙ ends i past

pub no_pieces : (size : ℕ) (read : ℤ) (n : ℕ) → 1 ≤ size → EndsBy size [] read n
no_pieces size read n some i past = none_from (byte_at []) (byte_index size i) size 0 (omega arith) refl
