-- Steps of the core one after the other, and the messages that they hand out.
use Rattle.std.proofs.Common.{◌≡◌, ◌≢◌, ℕ, zero, suc, ◌+◌, ◌<◌, ◌≤◌, List, [], ◌∷◌, ◌++◌, length, take, drop, replicate, Some, refl, ap, sym, ◌∙◌, arith, append_assoc, append-nil, ⊎_elim}
use Rattle.std.proofs.lemmas.Bool.{cases_lt}
use Rattle.std.proofs.lemmas.List.{get_or_past, get_or-set_same, get_or-set_other}
use Rattle.std.proofs.lemmas.Option.{none-some, same_Some}
use Rattle.px_types.specs.declared.ids.SinkId.{SinkId}
use Rattle.px_model.specs.Frame.{SampleSpec}
use Rattle.px_msg.specs.declared.message.Msg.{Msg}
use Rattle.px_state.specs.State.{State}
use Rattle.px_state.specs.Out.{waiting_for, first_of, rest_of, past, handed_out}
use Rattle.px_core.specs.Step.{Step, out, stepped, effects_of, stepped_by, effects_by}

module _ {P : Type 0} (spec_of : P → SampleSpec) where
  pub steps-join : (state : State P) (earlier later : List (Step P)) → stepped_by spec_of state (earlier ++ later) ≡ stepped_by spec_of (stepped_by spec_of state earlier) later
  steps-join state [] later = refl
  steps-join state (s ∷ earlier) later = steps-join (stepped spec_of state s) earlier later

  pub effects-join : (state : State P) (earlier later : List (Step P))
      → effects_by spec_of state (earlier ++ later) ≡ effects_by spec_of state earlier ++ effects_by spec_of (stepped_by spec_of state earlier) later
  effects-join state [] later = refl
  effects-join state (s ∷ earlier) later =
      ap (λ l. effects_of spec_of state s ++ l) (effects-join (stepped spec_of state s) earlier later)
      ∙ sym (append_assoc (effects_of spec_of state s) (effects_by spec_of (stepped spec_of state s) earlier)
      (effects_by spec_of (stepped_by spec_of (stepped spec_of state s) earlier) later))

  pub effects-push : (state : State P) (steps : List (Step P)) (s : Step P)
      → effects_by spec_of state (steps ++ s ∷ []) ≡ effects_by spec_of state steps ++ effects_of spec_of (stepped_by spec_of state steps) s
  effects-push state steps s =
      effects-join state steps (s ∷ [])
      ∙ ap (λ l. effects_by spec_of state steps ++ l) (append-nil (effects_of spec_of (stepped_by spec_of state steps) s))

-- ---- one message is handed out

cons-nil : {A : Type 0} (x : A) (xs : List A) → ◌≡◌ {A = List A} [] (x ∷ xs) → ⊥
cons-nil x xs e = cc

-- a sink for which a message waits has a place
has_place : {P : Type 0} (state : State P) (sink : SinkId) (m : Msg P) (rest : List (Msg P)) → waiting_for state sink ≡ m ∷ rest → sink.0 < length state.posted
has_place state sink m rest e =
    ⊎_elim (λ (h : sink.0 < length state.posted). h)
    (λ (h : length state.posted ≤ sink.0). absurd (cons-nil m rest (sym (get_or_past state.posted sink.0 [] h) ∙ e)))
    (cases_lt sink.0 (length state.posted))

pub waiting-past : {P : Type 0} (state : State P) (sink : SinkId) → waiting_for (handed_out sink state) sink ≡ rest_of (waiting_for state sink)
waiting-past {P} state sink = go (waiting_for state sink) refl
  where
    go : (l : List (Msg P)) → waiting_for state sink ≡ l → waiting_for (handed_out sink state) sink ≡ rest_of (waiting_for state sink)
    go [] e = ap (λ l. waiting_for (past (first_of l) sink state) sink) e ∙ e ∙ ap rest_of (sym e)
    go (m ∷ rest) e =
        ap (λ l. waiting_for (past (first_of l) sink state) sink) e
        ∙ get_or-set_same state.posted sink.0 (rest_of (waiting_for state sink)) [] (has_place state sink m rest e)

pub waiting-elsewhere : {P : Type 0} (state : State P) (sink other : SinkId) → other.0 ≢ sink.0 → waiting_for (handed_out sink state) other ≡ waiting_for state other
waiting-elsewhere {P} state sink other h = go (waiting_for state sink) refl
  where
    go : (l : List (Msg P)) → waiting_for state sink ≡ l → waiting_for (handed_out sink state) other ≡ waiting_for state other
    go [] e = ap (λ l. waiting_for (past (first_of l) sink state) other) e
    go (m ∷ rest) e =
        ap (λ l. waiting_for (past (first_of l) sink state) other) e
        ∙ get_or-set_other state.posted sink.0 other.0 (rest_of (waiting_for state sink)) [] h

-- ---- n messages are

drop-rest : {A : Type 0} (n : ℕ) (xs : List A) → drop n (rest_of xs) ≡ drop (suc n) xs
drop-rest zero [] = refl
drop-rest (suc n) [] = refl
drop-rest n (x ∷ xs) = refl

take-first : {A : Type 0} (n : ℕ) (xs : List A) (x : A) → first_of (drop n xs) ≡ Some x → take (n + 1) xs ≡ take n xs ++ x ∷ []
take-first zero [] x e = absurd (none-some x e)
take-first zero (y ∷ xs) x e = ap (λ z. z ∷ []) (same_Some y x e)
take-first (suc n) [] x e = absurd (none-some x e)
take-first (suc n) (y ∷ xs) x e =
    let count : suc n + 1 ≡ suc (n + 1) = omega arith in
    ap (λ k. take k (y ∷ xs)) count ∙ ap (λ l. y ∷ l) (take-first n xs x e)

first-there : {A : Type 0} (n : ℕ) (xs : List A) → n < length xs → (x : A) × (first_of (drop n xs) ≡ Some x)
first-there n [] h = absurd (omega arith)
first-there zero (y ∷ xs) h = (y, refl)
first-there (suc n) (y ∷ xs) h = first-there n xs (omega arith)

module _ {P : Type 0} (spec_of : P → SampleSpec) (sink : SinkId) where
  -- what waits afterwards, and before
  pub waiting-by : (state : State P) (n : ℕ) → waiting_for (stepped_by spec_of state (replicate n (out sink))) sink ≡ drop n (waiting_for state sink)
  waiting-by state zero = refl
  waiting-by state (suc n) = waiting-by (handed_out sink state) n ∙ ap (drop n) (waiting-past state sink) ∙ drop-rest n (waiting_for state sink)

  pub waiting-elsewhere-by : (state : State P) (other : SinkId) → other.0 ≢ sink.0 → (n : ℕ) → waiting_for (stepped_by spec_of state (replicate n (out sink))) other ≡ waiting_for state other
  waiting-elsewhere-by state other h zero = refl
  waiting-elsewhere-by state other h (suc n) = waiting-elsewhere-by (handed_out sink state) other h n ∙ waiting-elsewhere state sink other h

  -- they have no effects
  pub out-silent : (state : State P) (n : ℕ) → effects_by spec_of state (replicate n (out sink)) ≡ []
  out-silent state zero = refl
  out-silent state (suc n) = out-silent (handed_out sink state) n
