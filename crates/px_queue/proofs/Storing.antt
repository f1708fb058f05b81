-- Frames are held over what is held.
use Rattle.std.proofs.Common.{◌≡◌, ℕ, zero, suc, ◌+◌, ◌-◌, ◌*◌, ◌<◌, ◌≤◌, max, List, length, take, drop, refl, ap, sym, ◌∙◌, subst, arith, Option, Some, None, ⊎_elim, ◌⊎◌, inl, inr, length-drop, cond, Bool, true, false}
use Rattle.std.specs.Prelude.{slice_get, IsSome, nat_lt, ℤ, ◌≤ℤ◌, ◌<ℤ◌}
use Rattle.std.proofs.lemmas.Int.{ints, by_lt_z}
use Rattle.std.proofs.lemmas.Bool.{cases_lt, false≢true, ltb-true}
use Rattle.std.proofs.lemmas.Bool.Decides.{nat_tests}
use Rattle.std.proofs.lemmas.List.{drop_all, drop-drop}
use Rattle.std.proofs.Math.Nat.{add-mul, mul-le-mul_right}
use Rattle.px_model.specs.Index.{onward, above, FIRST, LAST, IsIndex}
use Rattle.px_model.specs.Frame.{Frame, frames_of}
use Rattle.px_model.specs.Held.{frame_of, overlay, written_over, IsTrimmed}
use Rattle.px_model.specs.Queue.{IsQueue}
use Rattle.px_model.proofs.Places.{place-range, place_past, same_places, get-drop, got_elem}
use Rattle.px_model.proofs.Bridge.{frame_from}
use Rattle.px_model.proofs.Overlay.{length-overlay, write_inside, write_outside, write_trimmed}
use Rattle.px_queue.specs.Pieces.{Piece, byte_in, first_of, byte_at}
use Rattle.px_queue.specs.Framed.{byte_index, framed, held_from, queue_of, EndsBy}
use Rattle.px_queue.proofs.Bytes.{in_below, in_from, in_past}
use Rattle.px_queue.proofs.Framing.{same_from, whole_from, place_onward, place_rises, place_after, held_length, held_frame}

-- ---- the frames of bytes

pub length_frames : (size n : ℕ) (bytes : List ℕ) → length (frames_of size n bytes) ≡ n
length_frames size zero bytes = refl
length_frames size (suc n) bytes = omega (arith, length_frames size n (drop size bytes))

pub frame_get : (size n k : ℕ) (bytes : List ℕ) → k < n → slice_get (frames_of size n bytes) k ≡ Some (take size (drop (k * size) bytes))
frame_get size zero k bytes h = absurd (omega (arith, h))
frame_get size (suc n) zero bytes h = let e : 0 ≡ 0 * size = omega arith in ap (λ (at : ℕ). Some (take size (drop at bytes))) e
frame_get size (suc n) (suc k) bytes h = frame_get size n k (drop size bytes) (omega (arith, h))
    ∙ (let e : size + k * size ≡ suc k * size = omega (arith, add-mul 1 k size) in
    ap (λ (rest : List ℕ). Some (take size rest)) (drop-drop (k * size) size bytes ∙ ap (λ (at : ℕ). drop at bytes) e))

-- ---- how much is held

-- how far so many frames reach past the read index
abbrev pub reach_of : ℕ → ℤ → ℤ → ℕ
reach_of count end read = cond (nat_lt 0 count) (above end read) 0

pub length_written : (read at : ℤ) (frames : List Frame) (held : List (Option Frame)) → length (written_over read at frames held) ≡ max (length held) (reach_of (length frames) (onward at (length frames)) read)
length_written read at frames held =
    ⊎_elim
    (λ (left : above read at < length frames).
    length-overlay (above at read) (drop (above read at) frames) held (omega (arith, length-drop (above read at) frames, left))
    ∙ grind (arith, ints, nat_tests, length-drop (above read at) frames, left))
    (λ (past : length frames ≤ above read at).
    ap (λ (f : List Frame). length (overlay (above at read) f held)) (drop_all (above read at) frames past)
    ∙ near (nat_lt 0 (length frames)) refl past)
    (cases_lt (above read at) (length frames))
  where
    near : (b : Bool) → nat_lt 0 (length frames) ≡ b → length frames ≤ above read at → length held ≡ max (length held) (cond b (above (onward at (length frames)) read) 0)
    near true e h = let some : 0 < length frames = ltb-true 0 (length frames) e in omega (arith, ints, h, some)
    near false e h = omega arith

-- ---- what is held with so many frames more

module _ (size count : ℕ) (old new : List Piece) (read at : ℤ) (n : ℕ) (bytes : List ℕ) (some : 1 ≤ size) (whole : length bytes ≡ count * size) (low : FIRST ≤ℤ at) (first : FIRST ≤ℤ read)
    (law : (j : ℕ) → byte_index size read ≤ j → byte_at new j ≡ first_of (byte_in (record { at = byte_index size at; bytes = bytes }) j) (byte_at old j))
    (ends : EndsBy size old read n) where
  abbrev mine : Piece
  mine = record { at = byte_index size at; bytes = bytes }

  in_mine : (i : ℤ) (j : ℕ) → at ≤ℤ i → i <ℤ onward at count → j < size → above i at * size + j < length bytes
  in_mine i j from few less =
      let k : ℕ = above i at in
      let next : k + 1 ≤ count = omega (arith, ints) in
      omega (arith, whole, less, add-mul k 1 size, mul-le-mul_right size next)

  got_first : (o p : Option ℕ) → IsSome o → first_of o p ≡ o
  got_first None p s = absurd (false≢true s)
  got_first (Some b) p s = refl

  inside : (i : ℤ) → read ≤ℤ i → at ≤ℤ i → i <ℤ onward at count → framed size new i ≡ Some (take size (drop (above i at * size) bytes))
  inside i from up few =
      let k : ℕ = above i at in
      let there : onward at k ≡ i = omega (arith, ints) in
      let start : byte_index size i ≡ byte_index size at + k * size = ap (byte_index size) (sym there) ∙ place_onward size at k low in
      whole_from (byte_at new) (byte_index size i) size (drop (k * size) bytes)
      (λ j less.
      let within : k * size + j < length bytes = in_mine i j up few less in
      let got : byte_in mine (byte_index size i + j) ≡ slice_get bytes (k * size + j) =
      in_from mine (byte_index size i + j) (omega (arith, start)) ∙ ap (slice_get bytes) (omega (arith, start)) in
      law (byte_index size i + j) (omega (arith, place_rises size read i from))
      ∙ got_first (byte_in mine (byte_index size i + j)) (byte_at old (byte_index size i + j)) (subst (λ (o : Option ℕ). IsSome o) (sym got) (got_elem bytes (k * size + j) within))
      ∙ got ∙ sym (get-drop (k * size) bytes j (k * size + j) refl))
      (omega (arith, length-drop (k * size) bytes, in_mine i (size - 1) up few (omega (arith, some))))

  outside : (i : ℤ) → read ≤ℤ i → (i <ℤ at) ⊎ (onward at count ≤ℤ i) → framed size new i ≡ framed size old i
  outside i from out =
      same_from (byte_at new) (byte_at old) (byte_index size i) size
      (λ j up less.
      law j (omega (arith, up, place_rises size read i from))
      ∙ ap (λ (o : Option ℕ). first_of o (byte_at old j))
      (⊎_elim
      (λ (below : i <ℤ at). in_below mine j (omega (arith, less, place_after size i at (omega (arith, ints, first, from)) below)))
      (λ (past : onward at count ≤ℤ i). in_past mine j (omega (arith, up, whole, place_onward size at count low, place_rises size (onward at count) i past)))
      out))

  abbrev frames : List Frame
  frames = frames_of size count bytes

  abbrev held : List (Option Frame)
  held = held_from size old read n

  pub frame_same : (i : ℤ) → read ≤ℤ i → framed size new i ≡ frame_of read (written_over read at frames held) i
  frame_same i from =
      let long : length frames ≡ count = length_frames size count bytes in
      by_lt_z i at
      (λ below. outside i from (inl below) ∙ sym (held_frame size old read n ends i from) ∙ sym (write_outside read at frames held i (inl below)))
      (λ up. by_lt_z i (onward at count)
      (λ few.
      let k : ℕ = above i at in
      let there : onward at k ≡ i = omega (arith, ints) in
      let less : k < count = omega (arith, ints, few, up) in
      inside i from up few ∙ sym (frame_get size count k bytes less)
      ∙ sym (write_inside read at frames held k (omega (arith, less, long)) (omega (arith, ints, from, there)))
      ∙ ap (frame_of read (written_over read at frames held)) there)
      (λ past. outside i from (inr past) ∙ sym (held_frame size old read n ends i from) ∙ sym (write_outside read at frames held i (inr (omega (arith, ints, past, long))))))

  abbrev reach : ℕ
  reach = reach_of count (onward at count) read

  held_long : length (written_over read at frames held) ≡ max n reach
  held_long =
      length_written read at frames held
      ∙ ap (λ (m : ℕ). max m (reach_of (length frames) (onward at (length frames)) read)) (held_length size old read n)
      ∙ ap (λ (m : ℕ). max n (reach_of m (onward at m) read)) (length_frames size count bytes)

  pub stored_held : held_from size new read (max n reach) ≡ written_over read at frames held
  stored_held =
      same_places (held_from size new read (max n reach)) (written_over read at frames held)
      (held_length size new read (max n reach) ∙ sym held_long)
      (λ k few.
      let less : k < max n reach = omega (arith, few, held_length size new read (max n reach)) in
      place-range (λ k. framed size new (onward read k)) 0 (max n reach) k k less (omega arith)
      ∙ frame_same (onward read k) (omega (arith, ints))
      ∙ frame_from read (written_over read at frames held) (onward read k) k refl)

  pub stored_ends : EndsBy size new read (max n reach)
  stored_ends i past =
      let from : read ≤ℤ i = omega (arith, ints, past) in
      frame_same i from
      ∙ frame_from read (written_over read at frames held) i (above i read) (omega (arith, ints, from))
      ∙ place_past (written_over read at frames held) (above i read) (omega (arith, ints, past, held_long))

-- the queue keeps what a queue keeps
pub stored_keeps : (size : ℕ) (old : List Piece) (read : ℤ) (n : ℕ) (write at end : ℤ) (hold : Bool) (prebuf count : ℕ) (frames : List Frame) (held : List (Option Frame))
    → IsQueue (queue_of size old read n write hold prebuf) → IsIndex end → held ≡ written_over read at frames (held_from size old read n) → length held ≡ max n (reach_of count end read)
    → IsQueue (record { held = held; read = read; write = end; hold = hold; prebuf = prebuf })
stored_keeps size old read n write at end hold prebuf count frames held keeps range is long = record {
  trimmed = subst IsTrimmed (sym is) (write_trimmed read at frames (held_from size old read n) keeps.trimmed);
  read_in_range = keeps.read_in_range;
  write_in_range = range;
  held_in_range = within (nat_lt 0 count) (length held) long;
  hold_has_prebuf = keeps.hold_has_prebuf;
}
  where
    within : (b : Bool) (m : ℕ) → m ≡ max n (cond b (above end read) 0) → onward read m ≤ℤ LAST
    within true m e = omega (arith, ints, e, keeps.held_in_range, keeps.read_in_range.1, range.1, held_length size old read n)
    within false m e = omega (arith, ints, e, keeps.held_in_range, keeps.read_in_range.1, range.1, held_length size old read n)
