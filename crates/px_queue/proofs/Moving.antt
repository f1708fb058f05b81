-- A queue goes forward.
use Rattle.std.proofs.Common.{◌≡◌, ℕ, ◌-◌, ◌<◌, ◌≤◌, min, List, drop, Bool, false, true, refl, ap, sym, ◌∙◌, arith, cond}
use Rattle.std.specs.Prelude.{ℤ, ◌==◌}
use Rattle.px_model.specs.Index.{onward, above, LAST}
use Rattle.px_model.specs.Queue.{Queue, IsQueue, left_of, is_short}
use Rattle.px_model.specs.Going.{queue_after}
use Rattle.px_model.proofs.Forward.{moved_same, step_of, runs_out, on_step, after_on, left_fits}
use Rattle.px_queue.specs.Pieces.{Piece}
use Rattle.px_queue.specs.Framed.{held_from, queue_of, step_by}
use Rattle.px_queue.proofs.Framing.{held_moved}

-- with its read index further on
pub gone : (size : ℕ) (ps : List Piece) (read : ℤ) (n : ℕ) (write : ℤ) (hold : Bool) (prebuf k d : ℕ) (on : Bool)
    → IsQueue (queue_of size ps read n write hold prebuf) → is_short (queue_of size ps read n write hold prebuf) ≡ false → 0 < k
    → d ≡ step_of (queue_of size ps read n write hold prebuf) k → on ≡ runs_out (queue_of size ps read n write hold prebuf) k
    → queue_of size ps (onward read d) (n - d) write on prebuf ≡ queue_after (queue_of size ps read n write hold prebuf) k
gone size ps read n write hold prebuf k d on keeps long some step out =
    let q = queue_of size ps read n write hold prebuf in
    ap (λ (m : ℕ). queue_of size ps (onward read m) (n - m) write on prebuf) step
    ∙ ap (λ (b : Bool). queue_of size ps (onward read (step_of q k)) (n - step_of q k) write b prebuf) out
    ∙ moved_same q (held_from size ps (onward read (step_of q k)) (n - step_of q k)) (drop (step_of q k) (held_from size ps read n)) (onward read (step_of q k)) (onward read (step_of q k)) (runs_out q k) (runs_out q k)
    (held_moved size ps read n (step_of q k)) refl refl
    ∙ sym (on_step q keeps k) ∙ sym (after_on q k long some)

-- the step stays in the range of indices
pub step_fits : (q : Queue) → IsQueue q → (k : ℕ) → step_of q k ≤ above LAST q.read
step_fits q keeps k = fits (q.prebuf == 0) (left_fits q keeps)
  where
    fits : (b : Bool) → left_of q ≤ above LAST q.read → min k (cond b (above LAST q.read) (left_of q)) ≤ above LAST q.read
    fits true h = omega arith
    fits false h = omega (arith, h)

pub step_is : (q : Queue) (k left : ℕ) → left ≡ left_of q → step_by q.prebuf k (above LAST q.read) left ≡ step_of q k
step_is q k left e = ap (λ (n : ℕ). step_by q.prebuf k (above LAST q.read) n) e ∙ same (q.prebuf == 0)
  where
    same : (b : Bool) → cond b (min k (above LAST q.read)) (min k (left_of q)) ≡ min k (cond b (above LAST q.read) (left_of q))
    same true = refl
    same false = refl
