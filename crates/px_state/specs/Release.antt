-- The oldest held messages of an input are queued for the sink that it is on.
use Rattle.std.specs.Prelude.{ℕ, zero, suc, ◌-◌, nat_lt, Bool, ◌&&◌, cond, List, [], ◌∷◌, ◌++◌, Option, None, Some}
use Rattle.px_types.specs.declared.ids.InputId.{InputId}
use Rattle.px_types.specs.declared.ids.SinkId.{SinkId}
use Rattle.px_outcome.specs.declared.input.Input.{Input}
use Rattle.px_msg.specs.declared.message.Msg.{Msg}
use Rattle.px_state.specs.declared.delayed.Delayed.{Delayed}
use Rattle.px_state.specs.Delayed.{is_of}
use Rattle.px_state.specs.State.{State}
use Rattle.px_state.specs.Change.{posted_to}

-- the first `n` of a list that pass a test, and the list without them
abbrev pub firsts : {A : Type 0} → (A → Bool) → List A → ℕ → List A
firsts passes [] n = []
firsts passes (x ∷ xs) zero = []
firsts passes (x ∷ xs) (suc n) = cond (passes x) (x ∷ firsts passes xs n) (firsts passes xs (suc n))

abbrev pub without_firsts : {A : Type 0} → (A → Bool) → List A → ℕ → List A
without_firsts passes [] n = []
without_firsts passes (x ∷ xs) zero = x ∷ xs
without_firsts passes (x ∷ xs) (suc n) = cond (passes x) (without_firsts passes xs n) (x ∷ without_firsts passes xs (suc n))

-- the queues, with these messages appended to one
abbrev pub all_posted_to : {P : Type 0} → ℕ → List (Delayed P) → List (List (Msg P)) → List (List (Msg P))
all_posted_to sink [] posted = posted
all_posted_to sink (d ∷ ds) posted = all_posted_to sink ds (posted_to sink d.message posted)

-- the oldest `n` of an input are queued
abbrev pub releasing_oldest : {P : Type 0} → Input → ℕ → State P → State P
releasing_oldest x n state = record state {
  delayed = without_firsts (is_of x.index) state.delayed n;
  posted = all_posted_to x.sink.0 (firsts (is_of x.index) state.delayed n) state.posted;
}

abbrev pub releasing_oldest_of : {P : Type 0} → Option Input → ℕ → State P → State P
releasing_oldest_of None n state = state
releasing_oldest_of (Some x) n state = releasing_oldest x n state

-- ---- one held message, of which the input's go to the sink while `left` are still to be queued

abbrev pub is_next : {P : Type 0} → InputId → ℕ → Delayed P → Bool
is_next index left d = nat_lt 0 left && is_of index d

abbrev pub held_past : {P : Type 0} → InputId → ℕ → Delayed P → List (Delayed P) → List (Delayed P)
held_past index left d rest = cond (is_next index left d) rest (rest ++ d ∷ [])

abbrev pub posted_past : {P : Type 0} → InputId → SinkId → ℕ → Delayed P → List (List (Msg P)) → List (List (Msg P))
posted_past index sink left d posted = cond (is_next index left d) (posted_to sink.0 d.message posted) posted

abbrev pub left_past : {P : Type 0} → InputId → ℕ → Delayed P → ℕ
left_past index left d = cond (is_next index left d) (left - 1) left
