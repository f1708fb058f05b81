-- A queue going by a frames and then by b goes by a + b.
use Rattle.std.proofs.Common.{◌≡◌, ℕ, zero, suc, ◌+◌, ◌-◌, ◌<◌, ◌≤◌, min, drop, Bool, true, false, refl, ap, sym, subst, ◌∙◌, arith, ⊎_elim, cond}
use Rattle.std.specs.Prelude.{nat_lt, ◌&&◌, ◌==◌}
use Rattle.std.proofs.lemmas.Bool.{cases_lt, cases_Bool, cond-true, cond-false, cond_both}
use Rattle.std.proofs.lemmas.Bool.Decides.{nat_tests}
use Rattle.std.proofs.lemmas.List.{drop-drop}
use Rattle.px_model.specs.Index.{onward, above, LAST}
use Rattle.px_model.specs.Held.{place}
use Rattle.px_model.specs.Queue.{Queue, IsQueue, left_of, is_short, FrameAhead, sound_of, nothing, queue_frame}
use Rattle.px_model.specs.Going.{queue_after, queue_on, queue_given}
use Rattle.px_model.proofs.Bridge.{onward-onward, above_onward}
use Rattle.px_model.proofs.Places.{place-drop}
use Rattle.px_model.proofs.Forward.{moved, moved_same, runs_out, step_of, left_fits, on_step, left_on, short_on, after_short, after_on, after_by, on_keeps}

-- ---- the frames given

pub given_short : (q : Queue) (k : ℕ) → is_short q ≡ true → queue_given q k ≡ 0
given_short q k h = cond-true (is_short q) 0 (min k (left_of q)) h

pub given_on : (q : Queue) (k : ℕ) → is_short q ≡ false → queue_given q k ≡ min k (left_of q)
given_on q k h = cond-false (is_short q) 0 (min k (left_of q)) h

pub given_none : (q : Queue) → queue_given q 0 ≡ 0
given_none q = cond_both (is_short q) 0 (min 0 (left_of q)) (λ x. x ≡ 0) (λ e. refl) (λ e. omega arith)

given_splits : (p n a b : ℕ) → min (a + b) n ≡ min a n + cond (nat_lt 0 p && nat_lt n a) 0 (min b (n - a))
given_splits p n a b = grind (arith, nat_tests)

pub given_next : (q : Queue) → IsQueue q → (a b : ℕ) → queue_given (queue_on q a) b ≡ cond (runs_out q a) 0 (min b (left_of q - a))
given_next q keeps a b = λ i. cond (short_on q keeps a i) 0 (min b (left_on q keeps a i))

none_more : (x y : ℕ) → x ≡ 0 → y ≡ x + y
none_more x y e = omega arith

pub queue_given_adds : (q : Queue) → IsQueue q → (a b : ℕ) → queue_given q (a + b) ≡ queue_given q a + queue_given (queue_after q a) b
queue_given_adds q keeps zero b = let e : 0 + b ≡ b = omega arith in ap (queue_given q) e ∙ none_more (queue_given q 0) (queue_given q b) (given_none q)
queue_given_adds q keeps (suc a) b =
    after_by (λ t. queue_given q (suc a + b) ≡ queue_given q (suc a) + queue_given t b) q (suc a) (omega arith)
    (λ h. given_short q (suc a + b) h ∙ (λ i. sym (given_short q (suc a) h) i + sym (given_short q b h) i))
    (λ h. given_on q (suc a + b) h ∙ given_splits q.prebuf (left_of q) (suc a) b ∙ (λ i. sym (given_on q (suc a) h) i + sym (given_next q keeps (suc a) b) i))

-- where the later part gives any, the earlier one gave all
all_before : (p n a b k : ℕ) → k < cond (nat_lt 0 p && nat_lt n a) 0 (min b (n - a)) → min a n ≡ a
all_before p n a b k h = grind (arith, nat_tests)

pub gave_all : (q : Queue) → IsQueue q → (a b k : ℕ) → k < queue_given (queue_after q a) b → queue_given q a ≡ a
gave_all q keeps zero b k l = given_none q
gave_all q keeps (suc a) b k l =
    after_by (λ t. k < queue_given t b → queue_given q (suc a) ≡ suc a) q (suc a) (omega arith)
    (λ h m. let none : queue_given q b ≡ 0 = given_short q b h in absurd (omega arith))
    (λ h m. given_on q (suc a) h ∙ all_before q.prebuf (left_of q) (suc a) b k (subst (λ n. k < n) (given_next q keeps (suc a) b) m))
    l

-- ---- the frame k ahead

frame_inside : (p n a k : ℕ) (x : FrameAhead) → a + k < n → cond (nat_lt 0 p && nat_lt n a) nothing (cond (nat_lt k (n - a)) x nothing) ≡ cond (nat_lt (a + k) n) x nothing
frame_inside p n a k x h = grind (arith, nat_tests)

frame_outside : (p n a k : ℕ) (x y : FrameAhead) → n ≤ a + k → cond (nat_lt 0 p && nat_lt n a) nothing (cond (nat_lt k (n - a)) x nothing) ≡ cond (nat_lt (a + k) n) y nothing
frame_outside p n a k x y h = grind (arith, nat_tests)

step_inside : (b : Bool) (n m a : ℕ) → n ≤ m → a ≤ n → min a (cond b m n) ≡ a
step_inside true n m a h l = omega arith
step_inside false n m a h l = omega arith

place_on : (q : Queue) → IsQueue q → (a k : ℕ) → a ≤ left_of q → place (queue_on q a).held k ≡ place q.held (a + k)
place_on q keeps a k h =
    ap (λ t. place (Queue.held t) k) (on_step q keeps a)
    ∙ place-drop (step_of q a) q.held k (a + k) (ap (λ n. n + k) (sym (step_inside (q.prebuf == 0) (left_of q) (above LAST q.read) a (left_fits q keeps) h)))

frame_next : (q : Queue) → IsQueue q → (a k : ℕ) → queue_frame (queue_on q a) k ≡ cond (runs_out q a) nothing (cond (nat_lt k (left_of q - a)) (sound_of (place (queue_on q a).held k)) nothing)
frame_next q keeps a k = λ i. cond (short_on q keeps a i) nothing (cond (nat_lt k (left_on q keeps a i)) (sound_of (place (queue_on q a).held k)) nothing)

frame_on : (q : Queue) (k : ℕ) → is_short q ≡ false → queue_frame q k ≡ cond (nat_lt k (left_of q)) (sound_of (place q.held k)) nothing
frame_on q k h = cond-false (is_short q) nothing (cond (nat_lt k (left_of q)) (sound_of (place q.held k)) nothing) h

frame_short : (q : Queue) (k : ℕ) → is_short q ≡ true → queue_frame q k ≡ nothing
frame_short q k h = cond-true (is_short q) nothing (cond (nat_lt k (left_of q)) (sound_of (place q.held k)) nothing) h

pub queue_frame_ahead : (q : Queue) → IsQueue q → (a k : ℕ) → queue_frame (queue_after q a) k ≡ queue_frame q (a + k)
queue_frame_ahead q keeps zero k = let e : k ≡ 0 + k = omega arith in ap (queue_frame q) e
queue_frame_ahead q keeps (suc a) k =
    after_by (λ t. queue_frame t k ≡ queue_frame q (suc a + k)) q (suc a) (omega arith)
    (λ h. frame_short q k h ∙ sym (frame_short q (suc a + k) h))
    (λ h. frame_next q keeps (suc a) k
    ∙ ⊎_elim
    (λ (l : suc a + k < left_of q).
    frame_inside q.prebuf (left_of q) (suc a) k (sound_of (place (queue_on q (suc a)).held k)) l
    ∙ ap (λ o. cond (nat_lt (suc a + k) (left_of q)) (sound_of o) nothing) (place_on q keeps (suc a) k (omega arith)))
    (λ (l : left_of q ≤ suc a + k). frame_outside q.prebuf (left_of q) (suc a) k (sound_of (place (queue_on q (suc a)).held k)) (sound_of (place q.held (suc a + k))) l)
    (cases_lt (suc a + k) (left_of q))
    ∙ sym (frame_on q (suc a + k) h))

-- ---- the queue after them

-- the numbers of one that goes on, and of one that ran out
steps_on : (p n m a b : ℕ) → n ≤ m → (nat_lt 0 p && nat_lt n a) ≡ false → min a (cond (p == 0) m n) + min b (cond (p == 0) (m - min a (cond (p == 0) m n)) (n - a)) ≡ min (a + b) (cond (p == 0) m n)
steps_on p n m a b h e = grind (arith, nat_tests)

steps_out : (p n m a b : ℕ) → (nat_lt 0 p && nat_lt n a) ≡ true → min a (cond (p == 0) m n) ≡ min (a + b) (cond (p == 0) m n)
steps_out p n m a b e = grind (arith, nat_tests)

holds_on : (p n a b : ℕ) → 0 < b → (nat_lt 0 p && nat_lt (n - a) b) ≡ (nat_lt 0 p && nat_lt n (a + b))
holds_on p n a b h = grind (arith, nat_tests)

holds_out : (p n a b : ℕ) → (nat_lt 0 p && nat_lt n a) ≡ true → (nat_lt 0 p && nat_lt n a) ≡ (nat_lt 0 p && nat_lt n (a + b))
holds_out p n a b e = grind (arith, nat_tests)

module _ (q : Queue) (keeps : IsQueue q) (a b : ℕ) (some_b : 0 < b) where
  -- the queue after a frames, by its step
  abbrev next : Queue
  next = moved q (drop (step_of q a) q.held) (onward q.read (step_of q a)) (runs_out q a)

  next_keeps : IsQueue next
  next_keeps = subst IsQueue (on_step q keeps a) (on_keeps q keeps a)

  left_next : left_of next ≡ left_of q - a
  left_next = ap left_of (sym (on_step q keeps a)) ∙ left_on q keeps a

  range_next : above LAST (onward q.read (step_of q a)) ≡ above LAST q.read - step_of q a
  range_next = above_onward LAST q.read (step_of q a)

  step_next : step_of next b ≡ min b (cond (q.prebuf == 0) (above LAST q.read - step_of q a) (left_of q - a))
  step_next = λ i. min b (cond (q.prebuf == 0) (range_next i) (left_next i))

  goes_on : runs_out q a ≡ false → queue_on next b ≡ queue_on q (a + b)
  goes_on e =
      let steps : step_of q a + step_of next b ≡ step_of q (a + b) = ap (λ n. step_of q a + n) step_next ∙ steps_on q.prebuf (left_of q) (above LAST q.read) a b (left_fits q keeps) e in
      on_step next next_keeps b
      ∙ moved_same q (drop (step_of next b) (drop (step_of q a) q.held)) (drop (step_of q (a + b)) q.held)
      (onward (onward q.read (step_of q a)) (step_of next b)) (onward q.read (step_of q (a + b)))
      (nat_lt 0 q.prebuf && nat_lt (left_of next) b) (runs_out q (a + b))
      (drop-drop (step_of next b) (step_of q a) q.held ∙ ap (λ n. drop n q.held) steps)
      (onward-onward q.read (step_of q a) (step_of next b) ∙ ap (onward q.read) steps)
      (ap (λ n. nat_lt 0 q.prebuf && nat_lt n b) left_next ∙ holds_on q.prebuf (left_of q) a b some_b)
      ∙ sym (on_step q keeps (a + b))

  is_out : runs_out q a ≡ true → next ≡ queue_on q (a + b)
  is_out e =
      let steps : step_of q a ≡ step_of q (a + b) = steps_out q.prebuf (left_of q) (above LAST q.read) a b e in
      moved_same q (drop (step_of q a) q.held) (drop (step_of q (a + b)) q.held) (onward q.read (step_of q a)) (onward q.read (step_of q (a + b))) (runs_out q a) (runs_out q (a + b))
      (ap (λ n. drop n q.held) steps) (ap (onward q.read) steps) (holds_out q.prebuf (left_of q) a b e)
      ∙ sym (on_step q keeps (a + b))

  next_short : (x : Bool) → runs_out q a ≡ x → is_short next ≡ x
  next_short x e = ap is_short (sym (on_step q keeps a)) ∙ short_on q keeps a ∙ e

  after_next : queue_after (queue_on q a) b ≡ queue_on q (a + b)
  after_next =
      ap (λ t. queue_after t b) (on_step q keeps a)
      ∙ ⊎_elim
      (λ (e : runs_out q a ≡ true). after_short next b (next_short true e) ∙ is_out e)
      (λ (e : runs_out q a ≡ false). after_on next b (next_short false e) some_b ∙ goes_on e)
      (cases_Bool (runs_out q a))

pub queue_after_adds : (q : Queue) → IsQueue q → (a b : ℕ) → queue_after (queue_after q a) b ≡ queue_after q (a + b)
queue_after_adds q keeps zero b = let e : b ≡ 0 + b = omega arith in ap (queue_after q) e
queue_after_adds q keeps (suc a) zero = let e : suc a ≡ suc a + 0 = omega arith in ap (queue_after q) e
queue_after_adds q keeps (suc a) (suc b) =
    ⊎_elim
    (λ (h : is_short q ≡ true). ap (λ t. queue_after t (suc b)) (after_short q (suc a) h) ∙ after_short q (suc b) h ∙ sym (after_short q (suc a + suc b) h))
    (λ (h : is_short q ≡ false).
    ap (λ t. queue_after t (suc b)) (after_on q (suc a) h (omega arith)) ∙ after_next q keeps (suc a) (suc b) (omega arith) ∙ sym (after_on q (suc a + suc b) h (omega arith)))
    (cases_Bool (is_short q))

-- ---- what was given before

-- where k frames ran out, all that is left was given: the frames given after a are those that are left of them
given_rest : (p n a b : ℕ) → cond (nat_lt 0 p && nat_lt n a) 0 (min b (n - a)) ≡ min b (n - a)
given_rest p n a b = grind (arith, nat_tests)

pub given_later : (q : Queue) → IsQueue q → (a b : ℕ) → is_short q ≡ false → 0 < a → queue_given (queue_after q a) b ≡ min b (left_of q - a)
given_later q keeps a b h l = ap (λ t. queue_given t b) (after_on q a h l) ∙ given_next q keeps a b ∙ given_rest q.prebuf (left_of q) a b
