-- Frames are copied out of runs of bytes.
use Rattle.std.proofs.Common.{◌≡◌, ℕ, zero, suc, ◌+◌, ◌-◌, ◌*◌, ◌/◌, ◌<◌, ◌≤◌, List, [], ◌++◌, length, take, drop, refl, ap, sym, ◌∙◌, subst, arith, Option, Some, None, max, ◌⊎◌, inl, inr, ⊎_elim, length-drop, length-append, Bool, false, cond}
use Rattle.std.specs.Prelude.{slice_get, IsSome, nat_lt, ℤ, ◌≤ℤ◌}
use Rattle.std.proofs.lemmas.Int.{ints}
use Rattle.std.proofs.lemmas.Bool.{cases_lt, false≢true, lt-ltb}
use Rattle.std.proofs.lemmas.List.{append-nil}
use Rattle.std.proofs.Math.Nat.{add-mul, mul-le-mul_right, mul_comm}
use Rattle.px_model.specs.Frame.{Frame}
use Rattle.px_model.specs.Index.{onward, FIRST}
use Rattle.px_model.specs.Queue.{Queue, left_of, is_short, nothing, sound, sound_of, queue_frame}
use Rattle.px_model.specs.Held.{place}
use Rattle.px_model.proofs.Places.{get_left, get-drop, place_past}
use Rattle.px_queue.specs.Pieces.{Piece, byte_at}
use Rattle.px_queue.specs.Framed.{joined, bytes_from, byte_index, held_from, EndsBy}
use Rattle.px_queue.proofs.Framing.{whole_from, none_from, place_onward, held_place}

-- how many frames so many bytes are
pub quotient : (r size : ℕ) → 1 ≤ size → (r / size * size ≤ r) × (r < r / size * size + size)
quotient r size some =
    let e : size * (r / size) ≡ r / size * size = mul_comm size (r / size) in
    (omega (arith, e), omega (arith, e))

-- the byte index of a frame behind the one at place k
pub next_place : (size : ℕ) (read : ℤ) (k j from : ℕ) → FIRST ≤ℤ read → from ≡ byte_index size (onward read k) → byte_index size (onward read (k + j)) ≡ from + j * size
next_place size read k j from low is =
    let there : onward (onward read k) j ≡ onward read (k + j) = omega (arith, ints) in
    ap (byte_index size) (sym there) ∙ place_onward size (onward read k) j (omega (arith, ints, low)) ∙ ap (λ (n : ℕ). n + j * size) (sym is)

module _ (size : ℕ) (ps : List Piece) (read : ℤ) (n : ℕ) (ends : EndsBy size ps read n) (low : FIRST ≤ℤ read) (k from : ℕ) (is : from ≡ byte_index size (onward read k)) where
  pub run_frames : (part rest : List ℕ) (m : ℕ) → length part ≡ m * size → ((t : ℕ) → t < length part → byte_at ps (from + t) ≡ slice_get part t)
      → (j : ℕ) → j < m → place (held_from size ps read n) (k + j) ≡ Some (take size (drop (j * size) (part ++ rest)))
  run_frames part rest m long bytes j few =
      let next : j + 1 ≤ m = omega arith in
      let fit : j * size + size ≤ length part = omega (arith, long, mul-le-mul_right size next, add-mul j 1 size) in
      held_place size ps read n ends (k + j)
      ∙ ap (λ (i : ℕ). bytes_from (byte_at ps) i size) (next_place size read k j from low is)
      ∙ whole_from (byte_at ps) (from + j * size) size (drop (j * size) (part ++ rest))
      (λ t less.
      let there : from + j * size + t ≡ from + (j * size + t) = omega arith in
      ap (byte_at ps) there ∙ bytes (j * size + t) (omega (arith, fit, less))
      ∙ sym (get_left part rest (j * size + t) (omega (arith, fit, less)))
      ∙ sym (get-drop (j * size) (part ++ rest) t (j * size + t) refl))
      (omega (arith, length-drop (j * size) (part ++ rest), length-append part rest, fit))

  -- the same where nothing stands behind them
  pub run_lent : (part : List ℕ) (m : ℕ) → length part ≡ m * size → ((t : ℕ) → t < length part → byte_at ps (from + t) ≡ slice_get part t)
      → (j : ℕ) → j < m → place (held_from size ps read n) (k + j) ≡ Some (take size (drop (j * size) part))
  run_lent part m long bytes j few =
      run_frames part [] m long bytes j few ∙ ap (λ (xs : List ℕ). Some (take size (drop (j * size) xs))) (append-nil part)

  -- a frame with a byte that isn't there
  pub run_end : (j r : ℕ) → j * size ≤ r → r < j * size + size → byte_at ps (from + r) ≡ None → place (held_from size ps read n) (k + j) ≡ None
  run_end j r up few none =
      let there : from + j * size + (r - j * size) ≡ from + r = omega (arith, up) in
      held_place size ps read n ends (k + j)
      ∙ ap (λ (i : ℕ). bytes_from (byte_at ps) i size) (next_place size read k j from low is)
      ∙ none_from (byte_at ps) (from + j * size) size (r - j * size) (omega (arith, up, few)) (ap (byte_at ps) there ∙ none)

  pub run_some : ((t : ℕ) → t < size → IsSome (byte_at ps (from + t))) → IsSome (place (held_from size ps read n) k)
  run_some bytes =
      subst (λ (o : Option (List ℕ)). IsSome o) (sym (held_place size ps read n ends k ∙ ap (λ (i : ℕ). bytes_from (byte_at ps) i size) (sym is))) (some_from (byte_at ps) from size bytes)
    where
      both : (o : Option ℕ) (p : Option (List ℕ)) → IsSome o → IsSome p → IsSome (joined o p)
      both None p s t = absurd (false≢true s)
      both (Some b) None s t = absurd (false≢true t)
      both (Some b) (Some bs) s t = refl

      some_from : (f : ℕ → Option ℕ) (i m : ℕ) → ((t : ℕ) → t < m → IsSome (f (i + t))) → IsSome (bytes_from f i m)
      some_from f i zero s = refl
      some_from f i (suc m) s =
          let here : i + 0 ≡ i = omega arith in
          both (f i) (bytes_from f (i + 1) m) (subst (λ (x : ℕ). IsSome (f x)) here (s 0 (omega arith)))
          (some_from f (i + 1) m (λ t few. let there : i + suc t ≡ i + 1 + t = omega arith in subst (λ (x : ℕ). IsSome (f x)) there (s (suc t) (omega arith))))

-- ---- frames that are lent

-- a frame that is held is heard, unless the queue is short
pub held_sounds : (q : Queue) (i : ℕ) (f : Frame) → is_short q ≡ false → place q.held i ≡ Some f → queue_frame q i ≡ sound f
held_sounds q i f long is =
    let inside : i < left_of q =
    ⊎_elim
    (λ (less : i < length q.held). omega arith)
    (λ (past : length q.held ≤ i). absurd (false≢true (subst (λ (o : Option Frame). IsSome o) (sym is ∙ place_past q.held i past) refl)))
    (cases_lt i (length q.held)) in
    ap (λ (b : Bool). cond b nothing (cond (nat_lt i (left_of q)) (sound_of (place q.held i)) nothing)) long
    ∙ ap (λ (b : Bool). cond b (sound_of (place q.held i)) nothing) (lt-ltb i (left_of q) inside)
    ∙ ap sound_of is

-- no more frames than their bytes fit in
pub lent_few : (m most size : ℕ) → m * size ≤ most * size → 1 ≤ size → m ≤ most
lent_few m most size fit some =
    ⊎_elim
    (λ (more : most < m).
    let next : most + 1 ≤ m = omega arith in
    absurd (omega (arith, fit, some, mul-le-mul_right size next, add-mul most 1 size)))
    (λ (few : m ≤ most). few)
    (cases_lt most m)

-- ---- gaps

pub held_gap : (ps : List Piece) (from gap : ℕ) → byte_at ps from ≡ None → (gap ≡ 0 → IsSome (byte_at ps from)) → 0 < gap
held_gap ps from gap none some =
    ⊎_elim
    (λ (less : 0 < gap). less)
    (λ (few : gap ≤ 0). absurd (false≢true (subst (λ (o : Option ℕ). IsSome o) none (some (omega arith)))))
    (cases_lt 0 gap)

pub wide : (most size : ℕ) → 1 ≤ most → 1 ≤ size → 0 < most * size
wide most size some large = let more : 1 * size ≤ most * size = mul-le-mul_right size some in omega (arith, more, large)

pub gap_fits : (j gap size : ℕ) → 0 < gap → 1 ≤ size → (j < gap / size) ⊎ (j ≡ 0) → j * size < gap
gap_fits j gap size some large (inl few) =
    let next : j + 1 ≤ gap / size = omega arith in
    omega (arith, (quotient gap size large).0, mul-le-mul_right size next, add-mul j 1 size, large)
gap_fits j gap size some large (inr none) = subst (λ (n : ℕ). n * size < gap) (sym none) (omega arith)

pub first_or_fits : (j n m : ℕ) → j < n → n ≡ max m 1 → (j < m) ⊎ (j ≡ 0)
first_or_fits j n m less is =
    ⊎_elim (λ (few : j < m). inl few) (λ (past : m ≤ j). inr (omega arith)) (cases_lt j m)
