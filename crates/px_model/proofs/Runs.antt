-- Runs add up: a frames and then b frames are a + b frames.
use Rattle.std.proofs.Common.{◌≡◌, ℕ, zero, suc, ◌+◌, ◌-◌, ◌<◌, ◌≤◌, min, refl, ap, sym, ◌∙◌, arith, ⊎_elim}
use Rattle.std.proofs.lemmas.Bool.{cases_lt}
use Rattle.std.proofs.lemmas.Bool.Decides.{nat_tests}
use Rattle.px_model.specs.declared.data.Run.{Run}
use Rattle.px_model.specs.declared.data.Run.TheVariants.{Quiet, Playing}
use Rattle.px_model.specs.Going.{run_after, playing_on, quiet_on, counted}

pub all_given : (r : Run) (g k : ℕ) → g ≡ k → run_after r g k ≡ playing_on r k
all_given r g k e = grind (arith, nat_tests)

pub some_given : (r : Run) (g k : ℕ) → g < k → run_after r g k ≡ quiet_on r g k
some_given r g k h = grind (arith, nat_tests)

pub ran_out : (r : Run) (g k : ℕ) → 0 < g → quiet_on r g k ≡ Quiet (counted (k - g))
ran_out (Playing p) g k h = refl
ran_out (Quiet u) g k h = grind (arith, nat_tests)

pub playing_adds : (r : Run) (a b : ℕ) → playing_on (playing_on r a) b ≡ playing_on r (a + b)
playing_adds (Playing p) a b = ap Playing (omega arith)
playing_adds (Quiet u) a b = ap Playing (omega arith)

quiet_adds : (r : Run) (a b : ℕ) → quiet_on (quiet_on r 0 a) 0 b ≡ quiet_on r 0 (a + b)
quiet_adds (Playing p) a b = ap Quiet (omega arith)
quiet_adds (Quiet u) a b = ap Quiet (omega arith)

then_quiet : (r : Run) (a g k : ℕ) → quiet_on (playing_on r a) g k ≡ Quiet (counted (k - g))
then_quiet (Playing p) a g k = refl
then_quiet (Quiet u) a g k = refl

quiet_more : (r : Run) (n a b : ℕ) → n < a → quiet_on (quiet_on r n a) 0 b ≡ quiet_on r n (a + b)
quiet_more r zero a b h = quiet_adds r a b
quiet_more r (suc n) a b h =
    ap (λ x. quiet_on x 0 b) (ran_out r (suc n) a (omega arith)) ∙ ap Quiet (omega arith) ∙ sym (ran_out r (suc n) (a + b) (omega arith))

-- of one that gives nothing
pub silence_adds : (r : Run) (a b : ℕ) → 0 < a → 0 < b → run_after (run_after r 0 a) 0 b ≡ run_after r 0 (a + b)
silence_adds r a b h k =
    ap (λ x. run_after x 0 b) (some_given r 0 a h) ∙ some_given (quiet_on r 0 a) 0 b k ∙ quiet_adds r a b ∙ sym (some_given r 0 (a + b) (omega arith))

-- of one that has n frames left
all_there : (r : Run) (n a b : ℕ) → a + b ≤ n → run_after (run_after r (min a n) a) (min b (n - a)) b ≡ run_after r (min (a + b) n) (a + b)
all_there r n a b l =
    ap (λ x. run_after x (min b (n - a)) b) (all_given r (min a n) a (omega arith)) ∙ all_given (playing_on r a) (min b (n - a)) b (omega arith)
    ∙ playing_adds r a b ∙ sym (all_given r (min (a + b) n) (a + b) (omega arith))

ends_later : (r : Run) (n a b : ℕ) → 0 < a → a ≤ n → n < a + b → run_after (run_after r (min a n) a) (min b (n - a)) b ≡ run_after r (min (a + b) n) (a + b)
ends_later r n a b h l m =
    ap (λ x. run_after x (min b (n - a)) b) (all_given r (min a n) a (omega arith)) ∙ some_given (playing_on r a) (min b (n - a)) b (omega arith)
    ∙ then_quiet r a (min b (n - a)) b ∙ ap Quiet (omega arith)
    ∙ sym (ran_out r (min (a + b) n) (a + b) (omega arith)) ∙ sym (some_given r (min (a + b) n) (a + b) (omega arith))

ends_first : (r : Run) (n a b : ℕ) → 0 < b → n < a → run_after (run_after r (min a n) a) (min b (n - a)) b ≡ run_after r (min (a + b) n) (a + b)
ends_first r n a b k m =
    ap (λ x. run_after x (min b (n - a)) b) (ap (λ g. run_after r g a) (omega arith) ∙ some_given r n a m)
    ∙ ap (λ g. run_after (quiet_on r n a) g b) (omega arith) ∙ some_given (quiet_on r n a) 0 b k ∙ quiet_more r n a b m
    ∙ sym (some_given r n (a + b) (omega arith)) ∙ ap (λ g. run_after r g (a + b)) (omega arith)

pub runs_add : (r : Run) (n a b : ℕ) → 0 < a → 0 < b → run_after (run_after r (min a n) a) (min b (n - a)) b ≡ run_after r (min (a + b) n) (a + b)
runs_add r n a b h k =
    ⊎_elim
    (λ (l : n < a). ends_first r n a b k l)
    (λ (l : a ≤ n). ⊎_elim (λ (m : n < a + b). ends_later r n a b h l m) (λ (m : a + b ≤ n). all_there r n a b m) (cases_lt n (a + b)))
    (cases_lt n a)
