-- Going forward acts on the map, and the frames left reach from the read index to the edge.
use Rattle.std.proofs.Common.{◌≡◌, ℕ, zero, suc, max, drop, length, Bool, refl, sym, subst, ◌∙◌, arith, cond}
use Rattle.std.specs.Prelude.{ℤ, ◌≤ℤ◌, ◌==◌}
use Rattle.std.specs.Int.{int_max}
use Rattle.std.proofs.lemmas.Int.{ints, clamps}
use Rattle.std.proofs.lemmas.Bool.{cond_both, eqb-true}
use Rattle.px_model.specs.Index.{onward, above}
use Rattle.px_model.specs.Queue.{Queue, IsQueue, left_of, edge_of, frame_held}
use Rattle.px_model.specs.Going.{queue_after}
use Rattle.px_model.proofs.Places.{place-drop}
use Rattle.px_model.proofs.Bridge.{frame_from}
use Rattle.px_model.proofs.Forward.{moved, runs_out, step_of, on_step, after_by}

moved_frames : (q : Queue) (n : ℕ) (b : Bool) (i : ℤ) → onward q.read n ≤ℤ i → frame_held (moved q (drop n q.held) (onward q.read n) b) i ≡ frame_held q i
moved_frames q n b i from =
    frame_from (onward q.read n) (drop n q.held) i (above i (onward q.read n)) (omega (arith, ints))
    ∙ place-drop n q.held (above i (onward q.read n)) (above i q.read) (omega (arith, ints))
    ∙ sym (frame_from q.read q.held i (above i q.read) (omega (arith, ints)))

-- what stood at or past the new read index still stands
pub going_frames : (q : Queue) → IsQueue q → (k : ℕ) (i : ℤ) → (queue_after q k).read ≤ℤ i → frame_held (queue_after q k) i ≡ frame_held q i
going_frames q keeps zero i from = refl
going_frames q keeps (suc k) i from =
    after_by (λ t. Queue.read t ≤ℤ i → frame_held t i ≡ frame_held q i) q (suc k) (omega arith)
    (λ c h. refl)
    (λ c. subst (λ t. Queue.read t ≤ℤ i → frame_held t i ≡ frame_held q i) (sym (on_step q keeps (suc k)))
    (λ h. moved_frames q (step_of q (suc k)) (runs_out q (suc k)) i h))
    from

-- the read index never falls
pub going_rises : (q : Queue) → IsQueue q → (k : ℕ) → q.read ≤ℤ (queue_after q k).read
going_rises q keeps zero = omega (arith, ints)
going_rises q keeps (suc k) =
    after_by (λ t. q.read ≤ℤ Queue.read t) q (suc k) (omega arith)
    (λ c. omega (arith, ints))
    (λ c. subst (λ t. q.read ≤ℤ Queue.read t) (sym (on_step q keeps (suc k))) (omega (arith, ints)))

edge_left : (w r : ℤ) (n : ℕ) → max (above w r) n ≡ above (cond (n == 0) w (int_max w (onward r n))) r
edge_left w r n =
    cond_both (n == 0) w (int_max w (onward r n)) (λ x. max (above w r) n ≡ above x r)
    (λ e. let none : n ≡ 0 = eqb-true n 0 e in omega (arith, ints))
    (λ e. omega (arith, ints, clamps))

pub left_to_edge : (q : Queue) → left_of q ≡ above (edge_of q) q.read
left_to_edge q = edge_left q.write q.read (length q.held)
