-- Pieces are cut at a byte index.
use Rattle.std.proofs.Common.{◌≡◌, ℕ, ◌+◌, ◌-◌, ◌<◌, ◌≤◌, List, [], ◌∷◌, ◌++◌, length, refl, ap, sym, ◌∙◌, subst, arith, Option, Some, None, ⊎_elim, length-take, length-drop, length-append, append_assoc}
use Rattle.std.proofs.lemmas.Bool.{cases_lt}
use Rattle.px_model.proofs.Places.{get-take, get-drop}
use Rattle.px_queue.specs.Pieces.{Piece, end_of, byte_in, first_of, byte_at, Rise, last_of, front_of, head_to, tail_from}
use Rattle.px_queue.proofs.Bytes.{in_below, in_from, in_past, at_both, at_more, at_one, at_left, rise_order, rise_higher, rise_both, rise_front, rise_back, front_last}

-- ---- the two parts of a piece

pub head_end : (p : Piece) (at : ℕ) → p.at ≤ at → end_of (head_to p at) ≤ at
head_end p at h = omega (arith, length-take (at - p.at) p.bytes)

pub tail_end : (p : Piece) (at : ℕ) → p.at ≤ at → at ≤ end_of p → end_of (tail_from p at) ≡ end_of p
tail_end p at h k = omega (arith, length-drop (at - p.at) p.bytes)

pub head_low : (p : Piece) (at i : ℕ) → i < at → byte_in (head_to p at) i ≡ byte_in p i
head_low p at i low =
    ⊎_elim
    (λ (below : i < p.at). in_below (head_to p at) i below ∙ sym (in_below p i below))
    (λ (from : p.at ≤ i). in_from (head_to p at) i from ∙ get-take (at - p.at) p.bytes (i - p.at) (omega arith) ∙ sym (in_from p i from))
    (cases_lt i p.at)

pub head_high : (p : Piece) (at i : ℕ) → p.at ≤ at → at ≤ i → byte_in (head_to p at) i ≡ None
head_high p at i h high = in_past (head_to p at) i (omega (arith, head_end p at h))

pub tail_low : (p : Piece) (at i : ℕ) → i < at → byte_in (tail_from p at) i ≡ None
tail_low p at i low = in_below (tail_from p at) i low

pub tail_high : (p : Piece) (at i : ℕ) → p.at ≤ at → at ≤ i → byte_in (tail_from p at) i ≡ byte_in p i
tail_high p at i h high =
    in_from (tail_from p at) i high
    ∙ get-drop (at - p.at) p.bytes (i - at) (i - p.at) (omega arith)
    ∙ sym (in_from p i (omega arith))

split_in : (p : Piece) (at i : ℕ) → p.at ≤ at → first_of (byte_in (head_to p at) i) (byte_in (tail_from p at) i) ≡ byte_in p i
split_in p at i h =
    ⊎_elim
    (λ (low : i < at). ap (first_of (byte_in (head_to p at) i)) (tail_low p at i low) ∙ none_right (byte_in (head_to p at) i) ∙ head_low p at i low)
    (λ (high : at ≤ i). ap (λ (o : Option ℕ). first_of o (byte_in (tail_from p at) i)) (head_high p at i h high) ∙ tail_high p at i h high)
    (cases_lt i at)
  where
    none_right : (o : Option ℕ) → first_of o None ≡ o
    none_right None = refl
    none_right (Some b) = refl

split_options : (a h t p q : Option ℕ) → first_of h t ≡ p → first_of (first_of a h) (first_of t q) ≡ first_of (first_of a p) q
split_options None None t p q e = ap (λ (o : Option ℕ). first_of o q) e
split_options None (Some b) t p q e = ap (λ (o : Option ℕ). first_of o q) e
split_options (Some a) h t p q e = refl

pub split_bytes : (ps qs : List Piece) (p : Piece) (at i : ℕ) → p.at ≤ at → byte_at ((ps ++ head_to p at ∷ []) ++ tail_from p at ∷ qs) i ≡ byte_at ((ps ++ p ∷ []) ++ qs) i
split_bytes ps qs p at i h =
    at_both (ps ++ head_to p at ∷ []) (tail_from p at ∷ qs) i
    ∙ ap (λ (o : Option ℕ). first_of o (byte_at (tail_from p at ∷ qs) i)) (at_more ps (head_to p at) i)
    ∙ split_options (byte_at ps i) (byte_in (head_to p at) i) (byte_in (tail_from p at) i) (byte_in p i) (byte_at qs i) (split_in p at i h)
    ∙ ap (λ (o : Option ℕ). first_of o (byte_at qs i)) (sym (at_more ps p i))
    ∙ sym (at_both (ps ++ p ∷ []) qs i)

-- ---- what rises

pub cut_rise : (low high : ℕ) (ps : List Piece) (p : Piece) (at : ℕ) → Rise low high (ps ++ p ∷ []) → p.at ≤ at → Rise low at (ps ++ head_to p at ∷ [])
cut_rise low high ps p at rise h = rise_both low p.at at ps (head_to p at ∷ []) (rise_front low high ps p rise) (omega arith, head_end p at h)

pub rise_behind : (low high : ℕ) (ps : List Piece) (p : Piece) (qs : List Piece) → Rise low high ((ps ++ p ∷ []) ++ qs) → Rise (end_of p) high qs
rise_behind low high [] p qs rise = rise.1
rise_behind low high (x ∷ ps) p qs rise = rise_behind (end_of x) high ps p qs rise.1

pub rise_prefix : (low high : ℕ) (ps qs : List Piece) → Rise low high (ps ++ qs) → Rise low high ps
rise_prefix low high [] qs rise = rise_order low high qs rise
rise_prefix low high (x ∷ ps) qs rise = (rise.0, rise_prefix (end_of x) high ps qs rise.1)

-- ---- by the last of them

pub last_begins : (low high : ℕ) (ps : List Piece) → 0 < length ps → Rise low high ps → Rise low (last_of ps).at (front_of ps)
last_begins low high ps some rise = rise_front low high (front_of ps) (last_of ps) (subst (Rise low high) (front_last ps some) rise)

pub last_order : (low high : ℕ) (ps : List Piece) → 0 < length ps → Rise low high ps → (low ≤ (last_of ps).at) × (end_of (last_of ps) ≤ high)
last_order low high ps some rise = rise_back low high (front_of ps) (last_of ps) (subst (Rise low high) (front_last ps some) rise)

pub front_rise : (low high : ℕ) (ps : List Piece) → 0 < length ps → Rise low high ps → Rise low high (front_of ps)
front_rise low high ps some rise =
    let order = last_order low high ps some rise in
    rise_higher low (last_of ps).at high (front_of ps) (omega (arith, order.1)) (last_begins low high ps some rise)

pub front_low : (ps : List Piece) (i : ℕ) → 0 < length ps → i < (last_of ps).at → byte_at (front_of ps) i ≡ byte_at ps i
front_low ps i some low =
    sym (ap (λ (xs : List Piece). byte_at xs i) (front_last ps some)
    ∙ at_left (front_of ps) (last_of ps ∷ []) i (at_one (last_of ps) i ∙ in_below (last_of ps) i low))

pub cut_low : (ps : List Piece) (at i : ℕ) → 0 < length ps → i < at → byte_at (front_of ps ++ head_to (last_of ps) at ∷ []) i ≡ byte_at ps i
cut_low ps at i some low =
    at_more (front_of ps) (head_to (last_of ps) at) i
    ∙ ap (first_of (byte_at (front_of ps) i)) (head_low (last_of ps) at i low)
    ∙ sym (ap (λ (xs : List Piece). byte_at xs i) (front_last ps some) ∙ at_more (front_of ps) (last_of ps) i)

pub step_all : (ps qs : List Piece) → 0 < length ps → front_of ps ++ last_of ps ∷ qs ≡ ps ++ qs
step_all ps qs some = sym (append_assoc (front_of ps) (last_of ps ∷ []) qs) ∙ ap (λ (xs : List Piece). xs ++ qs) (sym (front_last ps some))

pub step_rise : (high : ℕ) (ps qs : List Piece) (at : ℕ) → 0 < length ps → Rise 0 high (ps ++ qs) → at ≤ (last_of ps).at → Rise at high (last_of ps ∷ qs)
step_rise high ps qs at some rise h = (h, rise_behind 0 high (front_of ps) (last_of ps) qs (subst (λ (xs : List Piece). Rise 0 high (xs ++ qs)) (front_last ps some) rise))

pub shorter : (ps : List Piece) → 0 < length ps → length (front_of ps) + 1 ≡ length ps
shorter ps some = omega (arith, ap (λ (xs : List Piece). length xs) (front_last ps some), length-append (front_of ps) (last_of ps ∷ []))
