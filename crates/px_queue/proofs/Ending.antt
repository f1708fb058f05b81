-- How a write ends.
use Rattle.std.proofs.Common.{◌≡◌, ℕ, length, Bool, false, true, refl, ap, sym, ◌∙◌, arith, cond}
use Rattle.std.specs.Prelude.{ℤ, ◌-ℤ◌, ◌==◌, ◌||◌, not, ◌&&◌, int_lt, ◌≤ℤ◌, ◌<ℤ◌}
use Rattle.std.proofs.lemmas.Int.{ints}
use Rattle.px_model.specs.Index.{onward, IsIndex, is_index}
use Rattle.px_model.specs.Queue.{Queue, end_of as queue_end}
use Rattle.px_model.specs.Write.{passes_end, outcome_of, stored, overflow, outside}

pub ends_outside : (q : Queue) (limit p : ℤ) (l : ℕ) (a : ℤ) → (is_index p && is_index (onward p l)) ≡ false → outcome_of q limit p l a ≡ outside
ends_outside q limit p l a out =
    ap (λ (b : Bool). cond (not b) outside (cond (passes_end q p l && int_lt limit (onward p l -ℤ a)) overflow stored)) out

index_holds : (i : ℤ) → IsIndex i → is_index i ≡ true
index_holds i range = grind (arith, ints, range.0, range.1)

ends_inside : (q : Queue) (limit p : ℤ) (l : ℕ) (a : ℤ) → IsIndex p → IsIndex (onward p l)
    → outcome_of q limit p l a ≡ cond (passes_end q p l && int_lt limit (onward p l -ℤ a)) overflow stored
ends_inside q limit p l a first last =
    ap (λ (b : Bool). cond (not (b && is_index (onward p l))) outside (cond (passes_end q p l && int_lt limit (onward p l -ℤ a)) overflow stored)) (index_holds p first)
    ∙ ap (λ (b : Bool). cond (not (true && b)) outside (cond (passes_end q p l && int_lt limit (onward p l -ℤ a)) overflow stored)) (index_holds (onward p l) last)

-- by the test on where it ends
pub ends_by : (q : Queue) (limit p : ℤ) (l : ℕ) (a end : ℤ) (test : Bool) → IsIndex p → IsIndex (onward p l) → end ≡ onward p l
    → test ≡ ((length q.held == 0 || int_lt (queue_end q) end) && int_lt limit (end -ℤ a))
    → outcome_of q limit p l a ≡ cond test overflow stored
ends_by q limit p l a end test first last e is =
    ends_inside q limit p l a first last
    ∙ ap (λ (b : Bool). cond b overflow stored) (sym (is ∙ ap (λ (i : ℤ). (length q.held == 0 || int_lt (queue_end q) i) && int_lt limit (i -ℤ a)) e))

-- a test by what it says of two numbers
pub past_is : (test : Bool) (z w : ℤ) → (test ≡ true → w <ℤ z) → (test ≡ false → z ≤ℤ w) → test ≡ int_lt w z
past_is true z w further near = let h = further refl in grind (arith, ints, h)
past_is false z w further near = let h = near refl in grind (arith, ints, h)
