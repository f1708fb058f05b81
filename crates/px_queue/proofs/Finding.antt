-- Pieces that rise, by their numbers.
use Rattle.std.proofs.Common.{◌≡◌, ℕ, zero, suc, ◌+◌, ◌-◌, ◌<◌, ◌≤◌, List, [], ◌∷◌, ◌++◌, length, take, drop, refl, ap, sym, ◌∙◌, subst, arith, Option, Some, None, ⊎_elim, length-take}
use Rattle.std.specs.Prelude.{slice_index_or, slice_get, IsSome}
use Rattle.std.proofs.lemmas.Bool.{cases_lt, false≢true}
use Rattle.px_model.proofs.Places.{got_elem, get-take, get-drop, get_left, get_right}
use Rattle.px_queue.specs.Pieces.{Piece, end_of, byte_in, first_of, byte_at, last_of, Rise}
use Rattle.px_queue.proofs.Bytes.{in_below, in_from, in_past, none_low, rise_order}

-- those up to one that ends by a byte index
pub rise_take : (low high : ℕ) (ps : List Piece) (k from : ℕ) (d : Piece) → Rise low high ps → k < length ps → end_of (slice_index_or ps k d) ≤ from → Rise low from (take (suc k) ps)
rise_take low high [] k from d rise few past = absurd (omega arith)
rise_take low high (p ∷ ps) zero from d rise few past = (rise.0, past)
rise_take low high (p ∷ ps) (suc k) from d rise few past = (rise.0, rise_take (end_of p) high ps k from d rise.1 (omega arith) past)

-- what stands at a byte index that the ones before have passed: a byte of the next, if that has one
pub found : (low high : ℕ) (ps : List Piece) (k from i : ℕ) (d : Piece) → Rise low high ps → Rise low from (take k ps) → from ≤ i → k < length ps → i < end_of (slice_index_or ps k d)
    → byte_at ps i ≡ byte_in (slice_index_or ps k d) i
found low high [] k from i d rise before h few inside = absurd (omega arith)
found low high (p ∷ ps) zero from i d rise before h few inside = rest_none (byte_in p i) (byte_at ps i) (none_low (end_of p) high ps i rise.1 inside)
  where
    rest_none : (o q : Option ℕ) → q ≡ None → first_of o q ≡ o
    rest_none None q e = e
    rest_none (Some b) q e = refl
found low high (p ∷ ps) (suc k) from i d rise before h few inside =
    let order : end_of p ≤ from = rise_order (end_of p) from (take k ps) before.1 in
    ap (λ (o : Option ℕ). first_of o (byte_at ps i)) (in_past p i (omega arith))
    ∙ found (end_of p) high ps k from i d rise.1 before.1 h (omega arith) inside

pub found_some : (p : Piece) (i : ℕ) → p.at ≤ i → i < end_of p → IsSome (byte_in p i)
found_some p i low high = subst (λ (o : Option ℕ). IsSome o) (sym (in_from p i low)) (got_elem p.bytes (i - p.at) (omega arith))

-- nothing stands there where all have passed
pub all_past : (low high : ℕ) (ps : List Piece) (k from i : ℕ) → length ps ≤ k → Rise low from (take k ps) → from ≤ i → byte_at ps i ≡ None
all_past low high [] k from i few before h = refl
all_past low high (p ∷ ps) zero from i few before h = absurd (omega arith)
all_past low high (p ∷ ps) (suc k) from i few before h =
    let order : end_of p ≤ from = rise_order (end_of p) from (take k ps) before.1 in
    ap (λ (o : Option ℕ). first_of o (byte_at ps i)) (in_past p i (omega arith))
    ∙ all_past (end_of p) high ps k from i (omega arith) before.1 h

-- nor where the next begins past it
pub in_gap : (low high : ℕ) (ps : List Piece) (k from i : ℕ) (d : Piece) → Rise low high ps → Rise low from (take k ps) → from ≤ i → k < length ps → i < (slice_index_or ps k d).at → byte_at ps i ≡ None
in_gap low high ps k from i d rise before h few less =
    found low high ps k from i d rise before h few (omega arith) ∙ in_below (slice_index_or ps k d) i less

-- ---- those that begin before a byte index, and the others

pub last_taken : (ps : List Piece) (k : ℕ) (d : Piece) → suc k ≤ length ps → last_of (take (suc k) ps) ≡ slice_index_or ps k d
last_taken [] k d few = absurd (omega arith)
last_taken (p ∷ []) zero d few = refl
last_taken (p ∷ []) (suc k) d few = absurd (omega arith)
last_taken (p ∷ q ∷ ps) zero d few = refl
last_taken (p ∷ q ∷ ps) (suc k) d few = last_taken (q ∷ ps) k d (omega arith)

pub rise_dropped : (low high from : ℕ) (ps : List Piece) (k : ℕ) (d : Piece) → Rise low high ps → from ≤ high → (k < length ps → from ≤ (slice_index_or ps k d).at) → Rise from high (drop k ps)
rise_dropped low high from [] zero d rise top past = top
rise_dropped low high from [] (suc k) d rise top past = top
rise_dropped low high from (p ∷ ps) zero d rise top past = (past (omega arith), rise.1)
rise_dropped low high from (p ∷ ps) (suc k) d rise top past = rise_dropped (end_of p) high from ps k d rise.1 top (λ few. past (omega arith))

-- ---- runs

pub run_more : (f : ℕ → Option ℕ) (from count more : ℕ) → ((j : ℕ) → j < count → IsSome (f (from + j))) → ((j : ℕ) → j < more → IsSome (f (from + count + j))) → (j : ℕ) → j < count + more → IsSome (f (from + j))
run_more f from count more before behind j few =
    ⊎_elim
    (λ (low : j < count). before j low)
    (λ (high : count ≤ j).
    let there : from + count + (j - count) ≡ from + j = omega arith in
    subst (λ (i : ℕ). IsSome (f i)) there (behind (j - count) (omega arith)))
    (cases_lt j count)

pub some_not_none : (o : Option ℕ) → IsSome o → o ≡ None → ⊥
some_not_none None some e = false≢true some
some_not_none (Some b) some e = cc

-- ---- bytes are copied behind those that were

pub part_get : (p : Piece) (from more j : ℕ) (part : List ℕ) → p.at ≤ from → part ≡ take more (drop (from - p.at) p.bytes) → j < more → byte_in p (from + j) ≡ slice_get part j
part_get p from more j part low is few =
    in_from p (from + j) (omega arith)
    ∙ sym (get-drop (from - p.at) p.bytes j (from + j - p.at) (omega arith))
    ∙ sym (get-take more (drop (from - p.at) p.bytes) j few)
    ∙ ap (λ (xs : List ℕ). slice_get xs j) (sym is)

pub copied : (f : ℕ → Option ℕ) (from count more : ℕ) (out part rest : List ℕ) → count ≤ length out → length part ≡ more
    → ((j : ℕ) → j < count → f (from + j) ≡ slice_get out j) → ((j : ℕ) → j < more → f (from + count + j) ≡ slice_get part j)
    → (j : ℕ) → j < count + more → f (from + j) ≡ slice_get (take count out ++ (part ++ rest)) j
copied f from count more out part rest fit long before behind j few =
    ⊎_elim
    (λ (low : j < count). before j low ∙ sym (get-take count out j low) ∙ sym (get_left (take count out) (part ++ rest) j (omega (arith, length-take count out))))
    (λ (high : count ≤ j).
    let there : from + count + (j - count) ≡ from + j = omega arith in
    ap f (sym there) ∙ behind (j - count) (omega arith)
    ∙ sym (get_left part rest (j - count) (omega arith))
    ∙ sym (get_right (take count out) (part ++ rest) (j - count) j (omega (arith, length-take count out))))
    (cases_lt j count)
