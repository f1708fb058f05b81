-- What is heard of a queue once frames are written.
use Rattle.std.proofs.Common.{◌≡◌, ℕ, ◌<◌, List, length, drop, refl, ap, sym, ◌∙◌, subst, Option, None, Bool, true, false, cond, arith}
use Rattle.std.specs.Prelude.{ℤ, min}
use Rattle.px_model.specs.Index.{above, onward}
use Rattle.px_model.specs.Frame.{Frame}
use Rattle.px_model.specs.Held.{place, written_over}
use Rattle.px_model.specs.Queue.{Queue, is_short}
use Rattle.px_model.specs.Write.{Outcome, stored, overflow, outside, queue_with}
use Rattle.px_model.proofs.Overlay.{overlay_below}
use Rattle.px_queue.specs.Heard.{heard_of, is_other, unaltered_by}

-- one that is short as it was
heard_both : (after before : Bool) (a b : Option Frame) (first k : ℕ) → k < cond (is_other after before) 0 first → (k < first → a ≡ b) → cond after None a ≡ cond before None b
heard_both true true a b first k l same = refl
heard_both true false a b first k l same = absurd (omega (arith, l))
heard_both false true a b first k l same = absurd (omega (arith, l))
heard_both false false a b first k l same = same l

-- what stays is heard as before
pub heard_before : (q : Queue) (outcome : Outcome) (p : ℤ) (frames : List Frame) (n k : ℕ) → k < unaltered_by outcome q p frames n → heard_of (queue_with outcome q p frames) k ≡ heard_of q k
heard_before q outside p frames n k l = refl
heard_before q overflow p frames n k l = heard_both (is_short (queue_with overflow q p frames)) (is_short q) (place q.held k) (place q.held k) n k l (λ less. refl)
heard_before q stored p frames n k l =
    heard_both (is_short (queue_with stored q p frames)) (is_short q) (place (written_over q.read p frames q.held) k) (place q.held k) (min (above p q.read) n) k l
    (λ less. overlay_below (above p q.read) (drop (above q.read p) frames) q.held k (omega (arith, less)))

-- ---- how many they are

same_still : (b : Bool) (n : ℕ) → n ≡ cond (is_other b b) 0 n
same_still true n = refl
same_still false n = refl

-- where nothing is written
pub all_stay : (q : Queue) (outcome : Outcome) (p : ℤ) (frames : List Frame) (n : ℕ) → outcome ≡ outside → n ≡ unaltered_by outcome q p frames n
all_stay q outcome p frames n out = subst (λ (o : Outcome). n ≡ unaltered_by o q p frames n) (sym out) (same_still (is_short q) n)

-- where the frames begin and end at indices
pub placed_stay : (q : Queue) (outcome : Outcome) (refused : Bool) (p at : ℤ) (frames : List Frame) (l : ℕ) (end : ℤ) (n m : ℕ) → at ≡ p → end ≡ onward p l → length frames ≡ l
    → outcome ≡ cond refused overflow stored → (end ≡ onward at (length frames) → m ≡ unaltered_by (cond refused overflow stored) q at frames n) → m ≡ unaltered_by outcome q p frames n
placed_stay q outcome refused p at frames l end n m first last long is by =
    by (last ∙ ap (onward p) (sym long) ∙ ap (λ (i : ℤ). onward i (length frames)) (sym first))
    ∙ ap (λ (i : ℤ). unaltered_by (cond refused overflow stored) q i frames n) first
    ∙ ap (λ (o : Outcome). unaltered_by o q p frames n) (sym is)
