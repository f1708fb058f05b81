-- A queue going forward: one that is short, and one that isn't, by how far its read index goes.
use Rattle.std.proofs.Common.{◌≡◌, ℕ, zero, suc, ◌-◌, ◌<◌, ◌≤◌, min, List, drop, Option, Bool, true, false, refl, ap, subst, sym, ◌∙◌, arith, ⊎_elim, length-drop, cond}
use Rattle.std.specs.Prelude.{ℤ, ◌≤ℤ◌, nat_lt, ◌&&◌, ◌==◌}
use Rattle.std.specs.Int.{int_min}
use Rattle.std.proofs.lemmas.Bool.{cases_Bool, lt-ltb, cond-true, cond-false}
use Rattle.std.proofs.lemmas.Bool.Decides.{nat_tests}
use Rattle.std.proofs.lemmas.Int.{ints, clamps}
use Rattle.px_model.specs.Index.{onward, above, LAST}
use Rattle.px_model.specs.Frame.{Frame}
use Rattle.px_model.specs.Queue.{Queue, IsQueue, left_of, is_short}
use Rattle.px_model.specs.Going.{queue_after, queue_on, read_after}
use Rattle.px_model.proofs.Bridge.{above-onward}
use Rattle.px_model.proofs.Overlay.{drop_trimmed}

-- a queue with other places, another place to read and another hold
abbrev pub moved : Queue → List (Option Frame) → ℤ → Bool → Queue
moved q held read hold = record q { held = held; read = read; hold = hold }

pub moved_same : (q : Queue) (h h' : List (Option Frame)) (i i' : ℤ) (b b' : Bool) → h ≡ h' → i ≡ i' → b ≡ b' → moved q h i b ≡ moved q h' i' b'
moved_same q h h' i i' b b' p r t = λ x. moved q (p x) (r x) (t x)

-- it runs out with prebuffering
abbrev pub runs_out : Queue → ℕ → Bool
runs_out q k = nat_lt 0 q.prebuf && nat_lt (left_of q) k

-- how far the read index of one that isn't short goes
abbrev pub step_of : Queue → ℕ → ℕ
step_of q k = min k (cond (q.prebuf == 0) (above LAST q.read) (left_of q))

pub left_fits : (q : Queue) → IsQueue q → left_of q ≤ above LAST q.read
left_fits q keeps = omega (arith, ints, keeps.read_in_range.1, keeps.write_in_range.1, keeps.held_in_range)

read_step_when : (b : Bool) (r : ℤ) (k n : ℕ) → r ≤ℤ LAST → cond b (int_min (onward r k) LAST) (onward r (min k n)) ≡ onward r (min k (cond b (above LAST r) n))
read_step_when true r k n h = omega (arith, ints, clamps)
read_step_when false r k n h = refl

pub read_step : (q : Queue) → IsQueue q → (k : ℕ) → read_after q k ≡ onward q.read (step_of q k)
read_step q keeps k = read_step_when (q.prebuf == 0) q.read k (left_of q) keeps.read_in_range.1

-- one that isn't short, by its step
pub on_step : (q : Queue) → IsQueue q → (k : ℕ) → queue_on q k ≡ moved q (drop (step_of q k) q.held) (onward q.read (step_of q k)) (runs_out q k)
on_step q keeps k =
    moved_same q (drop (above (read_after q k) q.read) q.held) (drop (step_of q k) q.held) (read_after q k) (onward q.read (step_of q k)) (runs_out q k) (runs_out q k)
    (ap (λ n. drop n q.held) (ap (λ i. above i q.read) (read_step q keeps k) ∙ above-onward q.read (step_of q k))) (read_step q keeps k) refl

-- what is left after going n places on
pub left_moved : (q : Queue) (n : ℕ) (b : Bool) → left_of (moved q (drop n q.held) (onward q.read n) b) ≡ left_of q - n
left_moved q n b = omega (arith, ints, length-drop n q.held)

pub left_less : (b : Bool) (n m k : ℕ) → n ≤ m → n - min k (cond b m n) ≡ n - k
left_less true n m k h = omega arith
left_less false n m k h = omega arith

-- k frames fewer are left
pub left_on : (q : Queue) → IsQueue q → (k : ℕ) → left_of (queue_on q k) ≡ left_of q - k
left_on q keeps k =
    ap left_of (on_step q keeps k)
    ∙ left_moved q (step_of q k) (runs_out q k)
    ∙ left_less (q.prebuf == 0) (left_of q) (above LAST q.read) k (left_fits q keeps)

-- one that holds from then on, with nothing left, is short; one that doesn't is not
short_moved : (q : Queue) (n : ℕ) (b : Bool) → (b ≡ true → above q.write (onward q.read n) < q.prebuf) → is_short (moved q (drop n q.held) (onward q.read n) b) ≡ b
short_moved q n true h = lt-ltb (above q.write (onward q.read n)) q.prebuf (h refl)
short_moved q n false h = refl

ran_short : (p n m k : ℕ) → (nat_lt 0 p && nat_lt n k) ≡ true → n - min k (cond (p == 0) m n) < p
ran_short p n m k e = grind (arith, nat_tests)

pub short_on : (q : Queue) → IsQueue q → (k : ℕ) → is_short (queue_on q k) ≡ runs_out q k
short_on q keeps k =
    ap is_short (on_step q keeps k)
    ∙ short_moved q (step_of q k) (runs_out q k)
    (λ e. let short : left_of q - step_of q k < q.prebuf = ran_short q.prebuf (left_of q) (above LAST q.read) k e in omega (arith, ints, short))

-- ---- the two kinds of queue

pub after_short : (q : Queue) (k : ℕ) → is_short q ≡ true → queue_after q k ≡ q
after_short q zero h = refl
after_short q (suc k) h = cond-true (is_short q) q (queue_on q (suc k)) h

pub after_on : (q : Queue) (k : ℕ) → is_short q ≡ false → 0 < k → queue_after q k ≡ queue_on q k
after_on q zero h l = absurd (omega arith)
after_on q (suc k) h l = cond-false (is_short q) q (queue_on q (suc k)) h

-- a fact of the queue after k frames
pub after_by : (P : Queue → Type 0) (q : Queue) (k : ℕ) → 0 < k → (is_short q ≡ true → P q) → (is_short q ≡ false → P (queue_on q k)) → P (queue_after q k)
after_by P q k l short on =
    ⊎_elim
    (λ (h : is_short q ≡ true). subst P (sym (after_short q k h)) (short h))
    (λ (h : is_short q ≡ false). subst P (sym (after_on q k h l)) (on h))
    (cases_Bool (is_short q))

-- ---- what a queue keeps

step_fits : (b : Bool) (n m k : ℕ) → n ≤ m → min k (cond b m n) ≤ m
step_fits true n m k h = omega arith
step_fits false n m k h = omega arith

moved_keeps : (q : Queue) → IsQueue q → (n : ℕ) (b : Bool) → n ≤ above LAST q.read → (b ≡ true → 0 < q.prebuf) → IsQueue (moved q (drop n q.held) (onward q.read n) b)
moved_keeps q keeps n b h p = record {
  trimmed = drop_trimmed n q.held keeps.trimmed;
  read_in_range = (omega (arith, ints, keeps.read_in_range.0), omega (arith, ints, keeps.read_in_range.1));
  write_in_range = keeps.write_in_range;
  held_in_range = omega (arith, ints, keeps.held_in_range, length-drop n q.held, keeps.read_in_range.1);
  hold_has_prebuf = p;
}

holds_with_prebuf : (p n k : ℕ) → (nat_lt 0 p && nat_lt n k) ≡ true → 0 < p
holds_with_prebuf p n k e = grind (arith, nat_tests)

pub on_keeps : (q : Queue) → IsQueue q → (k : ℕ) → IsQueue (queue_on q k)
on_keeps q keeps k =
    subst IsQueue (sym (on_step q keeps k))
    (moved_keeps q keeps (step_of q k) (runs_out q k) (step_fits (q.prebuf == 0) (left_of q) (above LAST q.read) k (left_fits q keeps)) (holds_with_prebuf q.prebuf (left_of q) k))

pub queue_after_keeps : (q : Queue) → IsQueue q → (k : ℕ) → IsQueue (queue_after q k)
queue_after_keeps q keeps zero = keeps
queue_after_keeps q keeps (suc k) = after_by IsQueue q (suc k) (omega arith) (λ h. keeps) (λ h. on_keeps q keeps (suc k))
