-- An overflow by counts of frames.
use Rattle.std.proofs.Common.{◌≡◌, ℕ, length, Bool, ap, arith, cond}
use Rattle.std.specs.Prelude.{ℤ, pos, ◌≤ℤ◌, ◌-ℤ◌, int_lt, nat_lt, ◌==◌, ◌&&◌, ◌||◌, not}
use Rattle.std.proofs.lemmas.Int.{ints}
use Rattle.std.proofs.lemmas.Bool.Decides.{nat_tests}
use Rattle.px_model.specs.Index.{above, onward, is_index}
use Rattle.px_model.specs.Queue.{Queue}
use Rattle.px_model.specs.Write.{outcome_of, outcome_by_counts, overflow, stored, outside}

same_test : (held limit : ℕ) (read e a : ℤ) → read ≤ℤ a
    → ((held == 0 || int_lt (onward read held) e) && int_lt (pos limit) (e -ℤ a)) ≡ (int_lt (onward read held) e && nat_lt limit (above e a))
same_test held limit read e a near = grind (arith, ints, nat_tests, near)

pub counted : (q : Queue) (limit : ℕ) (p : ℤ) (l : ℕ) (a : ℤ) → q.read ≤ℤ a → outcome_of q (pos limit) p l a ≡ outcome_by_counts q limit p l a
counted q limit p l a near =
    ap (λ (b : Bool). cond (not (is_index p && is_index (onward p l))) outside (cond b overflow stored)) (same_test (length q.held) limit q.read (onward p l) a near)
