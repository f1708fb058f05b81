-- What stands at a byte index, of pieces that rise.
use Rattle.std.proofs.Common.{◌≡◌, ℕ, zero, suc, ◌-◌, ◌<◌, ◌≤◌, List, [], ◌∷◌, ◌++◌, length, refl, ap, sym, ◌∙◌, arith, Option, Some, None}
use Rattle.std.specs.Prelude.{nat_lt, slice_get, slice_index_or}
use Rattle.std.proofs.lemmas.Bool.{lt-ltb, le-ltb, cond-true, cond-false}
use Rattle.px_queue.specs.Pieces.{Piece, end_of, byte_in, first_of, byte_at, Rise, last_of, front_of}

-- ---- one piece

pub in_below : (p : Piece) (i : ℕ) → i < p.at → byte_in p i ≡ None
in_below p i low = cond-true (nat_lt i p.at) None (slice_get p.bytes (i - p.at)) (lt-ltb i p.at low)

pub in_from : (p : Piece) (i : ℕ) → p.at ≤ i → byte_in p i ≡ slice_get p.bytes (i - p.at)
in_from p i from = cond-false (nat_lt i p.at) None (slice_get p.bytes (i - p.at)) (le-ltb i p.at from)

pub got_past : {X : Type 0} (xs : List X) (k : ℕ) → length xs ≤ k → slice_get xs k ≡ None
got_past [] k h = refl
got_past (x ∷ xs) zero h = absurd (omega arith)
got_past (x ∷ xs) (suc k) h = got_past xs k (omega arith)

pub in_past : (p : Piece) (i : ℕ) → end_of p ≤ i → byte_in p i ≡ None
in_past p i past = in_from p i (omega arith) ∙ got_past p.bytes (i - p.at) (omega arith)

-- ---- several

first_none : (o : Option ℕ) → first_of o None ≡ o
first_none None = refl
first_none (Some b) = refl

first_assoc : (o p q : Option ℕ) → first_of (first_of o p) q ≡ first_of o (first_of p q)
first_assoc None p q = refl
first_assoc (Some b) p q = refl

pub at_both : (ps qs : List Piece) (i : ℕ) → byte_at (ps ++ qs) i ≡ first_of (byte_at ps i) (byte_at qs i)
at_both [] qs i = refl
at_both (p ∷ ps) qs i = ap (first_of (byte_in p i)) (at_both ps qs i) ∙ sym (first_assoc (byte_in p i) (byte_at ps i) (byte_at qs i))

pub at_one : (p : Piece) (i : ℕ) → byte_at (p ∷ []) i ≡ byte_in p i
at_one p i = first_none (byte_in p i)

pub at_more : (ps : List Piece) (p : Piece) (i : ℕ) → byte_at (ps ++ p ∷ []) i ≡ first_of (byte_at ps i) (byte_in p i)
at_more ps p i = at_both ps (p ∷ []) i ∙ ap (first_of (byte_at ps i)) (at_one p i)

-- nothing of the second: the first; nothing of the first: the second
pub at_left : (ps qs : List Piece) (i : ℕ) → byte_at qs i ≡ None → byte_at (ps ++ qs) i ≡ byte_at ps i
at_left ps qs i none = at_both ps qs i ∙ ap (first_of (byte_at ps i)) none ∙ first_none (byte_at ps i)

pub at_right : (ps qs : List Piece) (i : ℕ) → byte_at ps i ≡ None → byte_at (ps ++ qs) i ≡ byte_at qs i
at_right ps qs i none = at_both ps qs i ∙ ap (λ (o : Option ℕ). first_of o (byte_at qs i)) none

-- ---- pieces that rise

pub rise_order : (low high : ℕ) (ps : List Piece) → Rise low high ps → low ≤ high
rise_order low high [] rise = rise
rise_order low high (p ∷ ps) rise = let rest : end_of p ≤ high = rise_order (end_of p) high ps rise.1 in omega (arith, rise.0)

pub rise_lower : (low less high : ℕ) (ps : List Piece) → less ≤ low → Rise low high ps → Rise less high ps
rise_lower low less high [] h rise = omega (arith, rise)
rise_lower low less high (p ∷ ps) h rise = (omega (arith, rise.0), rise.1)

pub rise_higher : (low high more : ℕ) (ps : List Piece) → high ≤ more → Rise low high ps → Rise low more ps
rise_higher low high more [] h rise = omega (arith, rise)
rise_higher low high more (p ∷ ps) h rise = (rise.0, rise_higher (end_of p) high more ps h rise.1)

pub none_low : (low high : ℕ) (ps : List Piece) (i : ℕ) → Rise low high ps → i < low → byte_at ps i ≡ None
none_low low high [] i rise h = refl
none_low low high (p ∷ ps) i rise h =
    ap (λ (o : Option ℕ). first_of o (byte_at ps i)) (in_below p i (omega (arith, rise.0)))
    ∙ none_low (end_of p) high ps i rise.1 (omega (arith, rise.0))

pub none_high : (low high : ℕ) (ps : List Piece) (i : ℕ) → Rise low high ps → high ≤ i → byte_at ps i ≡ None
none_high low high [] i rise h = refl
none_high low high (p ∷ ps) i rise h =
    let order : end_of p ≤ high = rise_order (end_of p) high ps rise.1 in
    ap (λ (o : Option ℕ). first_of o (byte_at ps i)) (in_past p i (omega arith))
    ∙ none_high (end_of p) high ps i rise.1 h

pub rise_both : (low mid high : ℕ) (ps qs : List Piece) → Rise low mid ps → Rise mid high qs → Rise low high (ps ++ qs)
rise_both low mid high [] qs r s = rise_lower mid low high qs r s
rise_both low mid high (p ∷ ps) qs r s = (r.0, rise_both (end_of p) mid high ps qs r.1 s)

pub rise_one : (low high : ℕ) (p : Piece) → low ≤ p.at → end_of p ≤ high → Rise low high (p ∷ [])
rise_one low high p l h = (l, h)

-- the others end at or before the last, which has its bounds
pub rise_front : (low high : ℕ) (ps : List Piece) (p : Piece) → Rise low high (ps ++ p ∷ []) → Rise low p.at ps
rise_front low high [] p rise = rise.0
rise_front low high (q ∷ ps) p rise = (rise.0, rise_front (end_of q) high ps p rise.1)

pub rise_back : (low high : ℕ) (ps : List Piece) (p : Piece) → Rise low high (ps ++ p ∷ []) → (low ≤ p.at) × (end_of p ≤ high)
rise_back low high [] p rise = (rise.0, rise.1)
rise_back low high (q ∷ ps) p rise = let rest = rise_back (end_of q) high ps p rise.1 in (omega (arith, rise.0, rest.0), rest.1)

pub last_more : (ps : List Piece) (p : Piece) → last_of (ps ++ p ∷ []) ≡ p
last_more [] p = refl
last_more (q ∷ []) p = refl
last_more (q ∷ r ∷ ps) p = last_more (r ∷ ps) p

-- a list that isn't empty is its front and its last
pub rise_last : (low high : ℕ) (ps : List Piece) → Rise low high ps → 0 < length ps → end_of (last_of ps) ≤ high
rise_last low high [] rise some = absurd (omega arith)
rise_last low high (p ∷ []) rise some = rise.1
rise_last low high (p ∷ q ∷ ps) rise some = rise_last (end_of p) high (q ∷ ps) rise.1 (omega arith)

pub rise_until : (low high : ℕ) (ps : List Piece) → Rise low high ps → 0 < length ps → Rise low (end_of (last_of ps)) ps
rise_until low high [] rise some = absurd (omega arith)
rise_until low high (p ∷ []) rise some = (rise.0, omega arith)
rise_until low high (p ∷ q ∷ ps) rise some = (rise.0, rise_until (end_of p) high (q ∷ ps) rise.1 (omega arith))

-- the last begins before the first bound that it is not past: all pieces that rise and aren't there
pub rise_none : (low high some : ℕ) (ps : List Piece) → Rise low high ps → length ps ≡ 0 → low ≤ some → Rise low some ps
rise_none low high some [] rise none h = h
rise_none low high some (p ∷ ps) rise none h = absurd (omega arith)

-- ---- the last and the others

pub front_more : (ps : List Piece) (p : Piece) → front_of (ps ++ p ∷ []) ≡ ps
front_more [] p = refl
front_more (q ∷ []) p = refl
front_more (q ∷ r ∷ ps) p = ap (λ (xs : List Piece). q ∷ xs) (front_more (r ∷ ps) p)

pub front_last : (ps : List Piece) → 0 < length ps → ps ≡ front_of ps ++ last_of ps ∷ []
front_last [] some = absurd (omega arith)
front_last (p ∷ []) some = refl
front_last (p ∷ q ∷ ps) some = ap (λ (xs : List Piece). p ∷ xs) (front_last (q ∷ ps) (omega arith))

pub last_get : (ps : List Piece) (k : ℕ) (d : Piece) → length ps ≡ suc k → last_of ps ≡ slice_index_or ps k d
last_get [] k d e = absurd (omega arith)
last_get (p ∷ []) zero d e = refl
last_get (p ∷ []) (suc k) d e = absurd (omega arith)
last_get (p ∷ q ∷ ps) zero d e = absurd (omega arith)
last_get (p ∷ q ∷ ps) (suc k) d e = last_get (q ∷ ps) k d (omega arith)
