-- Loops go on by one number, and by one step.
use Rattle.std.proofs.Common.{◌≡◌, ℕ, zero, suc, ◌+◌, ◌-◌, ◌<◌, List, ◌++◌, refl, sym, ap, ◌∙◌, arith, append_assoc}
use Rattle.std.proofs.lemmas.List.{append-nil}
use Rattle.std.proofs.lemmas.Grind.{flat_map-append}
use Rattle.std.specs.List.{flat_map}
use Rattle.px_session.specs.declared.event.Event.{Event}
use Rattle.px_session.specs.Spelling.{event}
use Rattle.px_gen.specs.Numbers.{next_state, next_number, state_after, sample, samples}
use Rattle.px_gen.specs.Generator.{form, step_events, step_state, steps}

samples_suc : (n x : ℕ) → samples (suc n) x ≡ samples n x ++ sample (next_number (state_after n x))
samples_suc zero x = append-nil (sample (next_number x))
samples_suc (suc n) x =
    ap (λ (rest : List ℕ). sample (next_number x) ++ rest) (samples_suc n (next_state x))
    ∙ sym (append_assoc (sample (next_number x)) (samples n (next_state x)) (sample (next_number (state_after n (next_state x)))))

state_suc : (n x : ℕ) → state_after (suc n) x ≡ next_state (state_after n x)
state_suc zero x = refl
state_suc (suc n) x = state_suc n (next_state x)

one_more : (n : ℕ) → n + 1 ≡ suc n
one_more n = omega arith

pub samples_more : (n x : ℕ) → samples (n + 1) x ≡ samples n x ++ sample (next_number (state_after n x))
samples_more n x = ap (λ (m : ℕ). samples m x) (one_more n) ∙ samples_suc n x

pub state_more : (n x : ℕ) → state_after (n + 1) x ≡ next_state (state_after n x)
state_more n x = ap (λ (m : ℕ). state_after m x) (one_more n) ∙ state_suc n x

-- the state after n steps
abbrev pub state_behind : ℕ → ℕ → ℕ
state_behind zero x = x
state_behind (suc n) x = state_behind n (step_state x)

behind_suc : (n x : ℕ) → state_behind (suc n) x ≡ step_state (state_behind n x)
behind_suc zero x = refl
behind_suc (suc n) x = behind_suc n (step_state x)

pub behind_more : (n x : ℕ) → state_behind (n + 1) x ≡ step_state (state_behind n x)
behind_more n x = ap (λ (m : ℕ). state_behind m x) (one_more n) ∙ behind_suc n x

-- the steps before a place, and those from it on
steps_split : (i m x : ℕ) → steps (i + m) x ≡ steps i x ++ steps m (state_behind i x)
steps_split zero m x =
    let none : 0 + m ≡ m = omega arith in
    ap (λ (n : ℕ). steps n x) none
steps_split (suc i) m x =
    let one : suc i + m ≡ suc (i + m) = omega arith in
    ap (λ (n : ℕ). steps n x) one
    ∙ ap (λ (rest : List Event). step_events x ++ rest) (steps_split i m (step_state x))
    ∙ sym (append_assoc (step_events x) (steps i (step_state x)) (steps m (state_behind i (step_state x))))

-- the bytes of the steps before a place, of the step at it, and of those behind it
pub steps_around : (i count x : ℕ) → i < count → flat_map (event form) (steps count x) ≡ flat_map (event form) (steps i x) ++ (flat_map (event form) (step_events (state_behind i x)) ++ flat_map (event form) (steps (count - suc i) (step_state (state_behind i x))))
steps_around i count x inside =
    let m = count - suc i in
    let whole : i + suc (count - suc i) ≡ count = omega arith in
    let y = state_behind i x in
    ap (λ (n : ℕ). flat_map (event form) (steps n x)) (sym whole)
    ∙ ap (λ (es : List Event). flat_map (event form) es) (steps_split i (suc m) x)
    ∙ flat_map-append (event form) (steps i x) (steps (suc m) y)
    ∙ ap (λ (t : List ℕ). flat_map (event form) (steps i x) ++ t) (flat_map-append (event form) (step_events y) (steps m (step_state y)))

-- the bytes of one step more
pub steps_more : (i x : ℕ) → flat_map (event form) (steps (i + 1) x) ≡ flat_map (event form) (steps i x) ++ flat_map (event form) (step_events (state_behind i x))
steps_more i x =
    ap (λ (es : List Event). flat_map (event form) es) (steps_split i 1 x ∙ ap (λ (es : List Event). steps i x ++ es) (append-nil (step_events (state_behind i x))))
    ∙ flat_map-append (event form) (steps i x) (step_events (state_behind i x))
