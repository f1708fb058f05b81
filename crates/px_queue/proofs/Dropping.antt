-- What lies before a byte index goes.
use Rattle.std.proofs.Common.{◌≡◌, ℕ, ◌+◌, ◌<◌, ◌≤◌, List, [], ◌∷◌, length, drop, refl, ap, sym, subst, arith, Option}
use Rattle.std.specs.Prelude.{slice_index_or}
use Rattle.px_queue.specs.Pieces.{Piece, end_of, first_of, byte_at, Rise, tail_from}
use Rattle.px_queue.proofs.Bytes.{in_past, rise_lower}
use Rattle.px_queue.proofs.Cutting.{tail_end, tail_high}

pub rest_rise : (high : ℕ) (ps : List Piece) → Rise 0 high ps → Rise 0 high (drop 1 ps)
rest_rise high [] rise = rise
rest_rise high (p ∷ ps) rise = rise_lower (end_of p) 0 high ps (omega arith) rise.1

pub rest_bytes : (ps : List Piece) (i : ℕ) (d : Piece) → end_of (slice_index_or ps 0 d) ≤ i → byte_at (drop 1 ps) i ≡ byte_at ps i
rest_bytes [] i d past = refl
rest_bytes (p ∷ ps) i d past = sym (ap (λ (o : Option ℕ). first_of o (byte_at ps i)) (in_past p i past))

pub rest_short : (ps : List Piece) → 0 < length ps → length (drop 1 ps) + 1 ≡ length ps
rest_short [] some = absurd (omega arith)
rest_short (p ∷ ps) some = omega arith

pub held_rise : (high : ℕ) (ps : List Piece) (from : ℕ) (d : Piece) → from ≤ high → Rise 0 high ps → (0 < length ps → from ≤ (slice_index_or ps 0 d).at) → Rise from high ps
held_rise high [] from d top rise low = top
held_rise high (p ∷ ps) from d top rise low = (low (omega arith), rise.1)

pub cut_first_rise : (high : ℕ) (ps : List Piece) (from : ℕ) (d : Piece) → 0 < length ps → Rise 0 high ps → (slice_index_or ps 0 d).at ≤ from → from ≤ end_of (slice_index_or ps 0 d)
    → Rise from high (tail_from (slice_index_or ps 0 d) from ∷ drop 1 ps)
cut_first_rise high [] from d some rise low to = absurd (omega arith)
cut_first_rise high (p ∷ ps) from d some rise low to =
    let at : from ≤ from = omega arith in
    (at, subst (λ (n : ℕ). Rise n high ps) (sym (tail_end p from low to)) rise.1)

pub cut_first_bytes : (ps : List Piece) (from i : ℕ) (d : Piece) → 0 < length ps → (slice_index_or ps 0 d).at ≤ from → from ≤ i
    → byte_at (tail_from (slice_index_or ps 0 d) from ∷ drop 1 ps) i ≡ byte_at ps i
cut_first_bytes [] from i d some low high = absurd (omega arith)
cut_first_bytes (p ∷ ps) from i d some low high = ap (λ (o : Option ℕ). first_of o (byte_at ps i)) (tail_high p from i low high)

pub none_rise : (ps : List Piece) → length ps ≡ 0 → ps ≡ []
none_rise [] none = refl
none_rise (p ∷ ps) none = absurd (omega arith)
