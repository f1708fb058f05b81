-- Steps of the core, one after the other, seen from what is left of them.
use Rattle.std.proofs.Common.{◌≡◌, ℕ, zero, suc, ◌-◌, ◌<◌, ◌≤◌, List, [], ◌∷◌, ◌++◌, length, take, drop, map, replicate, Some, ap, sym, subst, ◌∙◌, arith, append_assoc}
use Rattle.std.specs.Prelude.{All}
use Rattle.std.proofs.lemmas.Option.{same_Some}
use Rattle.px_types.specs.declared.ids.SinkId.{SinkId}
use Rattle.px_model.specs.Frame.{SampleSpec}
use Rattle.px_msg.specs.declared.message.Msg.{Msg}
use Rattle.px_state.specs.declared.effect.Effect.{Effect}
use Rattle.px_state.specs.State.{State}
use Rattle.px_state.specs.Out.{waiting_for, first_of, rest_of, next_for, handed_out}
use Rattle.px_core.specs.Step.{Step, out, stepped, effects_of, stepped_by, effects_by}
use Rattle.px_world.proofs.Steps.{steps-join, effects-join, effects-push, waiting-past}

module _ {P : Type 0} (spec_of : P → SampleSpec) where
  -- one step is done, of those that were left
  pub step-first : (state next whole : State P) (s : Step P) (steps : List (Step P)) → next ≡ stepped spec_of state s
      → stepped_by spec_of state (s ∷ steps) ≡ whole → stepped_by spec_of next steps ≡ whole
  step-first state next whole s steps e w = ap (λ t. stepped_by spec_of t steps) e ∙ w

  pub effects-first : (state next : State P) (s : Step P) (steps : List (Step P)) (before after whole : List Effect) → next ≡ stepped spec_of state s
      → after ≡ before ++ effects_of spec_of state s → before ++ effects_by spec_of state (s ∷ steps) ≡ whole → after ++ effects_by spec_of next steps ≡ whole
  effects-first state next s steps before after whole e a w =
      ap (λ l. l ++ effects_by spec_of next steps) a
      ∙ ap (λ t. (before ++ effects_of spec_of state s) ++ effects_by spec_of t steps) e
      ∙ append_assoc before (effects_of spec_of state s) (effects_by spec_of (stepped spec_of state s) steps)
      ∙ w

  -- the same of the steps of a list
  pub map-first : {X : Type 0} (f : X → Step P) (state next whole : State P) (x : X) (rest all : List X) → all ≡ x ∷ rest → next ≡ stepped spec_of state (f x)
      → stepped_by spec_of state (map f all) ≡ whole → stepped_by spec_of next (map f rest) ≡ whole
  map-first f state next whole x rest all front e w =
      step-first state next whole (f x) (map f rest) e (ap (λ l. stepped_by spec_of state (map f l)) (sym front) ∙ w)

  pub map-effects-first : {X : Type 0} (f : X → Step P) (state next : State P) (x : X) (rest all : List X) (before after whole : List Effect) → all ≡ x ∷ rest
      → next ≡ stepped spec_of state (f x) → after ≡ before ++ effects_of spec_of state (f x)
      → before ++ effects_by spec_of state (map f all) ≡ whole → after ++ effects_by spec_of next (map f rest) ≡ whole
  map-effects-first f state next x rest all before after whole front e a w =
      effects-first state next (f x) (map f rest) before after whole e a (ap (λ l. before ++ effects_by spec_of state (map f l)) (sym front) ∙ w)

  -- steps behind others, with their effects
  pub steps-behind : (state next last : State P) (earlier later : List (Step P)) → next ≡ stepped_by spec_of state earlier → last ≡ stepped_by spec_of next later
      → last ≡ stepped_by spec_of state (earlier ++ later)
  steps-behind state next last earlier later e l = l ∙ ap (λ t. stepped_by spec_of t later) e ∙ sym (steps-join spec_of state earlier later)

  pub effects-behind : (state next : State P) (earlier later : List (Step P)) (before all : List Effect) → next ≡ stepped_by spec_of state earlier
      → before ≡ effects_by spec_of state earlier → all ≡ before ++ effects_by spec_of next later → all ≡ effects_by spec_of state (earlier ++ later)
  effects-behind state next earlier later before all e b a =
      a ∙ ap (λ l. l ++ effects_by spec_of next later) b ∙ ap (λ t. effects_by spec_of state earlier ++ effects_by spec_of t later) e
      ∙ sym (effects-join spec_of state earlier later)

  -- one step behind others
  pub pushed-caused : (state next : State P) (steps : List (Step P)) (s : Step P) (start before more all : List Effect) → next ≡ stepped_by spec_of state steps
      → before ≡ start ++ effects_by spec_of state steps → more ≡ effects_of spec_of next s → all ≡ before ++ more → all ≡ start ++ effects_by spec_of state (steps ++ s ∷ [])
  pushed-caused state next steps s start before more all e b m a =
      a ∙ ap (λ l. l ++ more) b ∙ append_assoc start (effects_by spec_of state steps) more
      ∙ ap (λ l. start ++ (effects_by spec_of state steps ++ l)) (m ∙ ap (λ t. effects_of spec_of t s) e)
      ∙ ap (λ l. start ++ l) (sym (effects-push spec_of state steps s))

-- ---- the first ones of a list

one-less : (left : ℕ) → left ≡ suc left - 1
one-less left = omega arith

pub take-next : {A : Type 0} (left : ℕ) (x : A) (rest all : List A) → 0 < left → all ≡ x ∷ rest → take left all ≡ x ∷ take (left - 1) rest
take-next zero x rest all h e = absurd (omega (arith, h))
take-next (suc left) x rest all h e = ap (take (suc left)) e ∙ ap (λ k. x ∷ take k rest) (one-less left)

pub drop-next : {A : Type 0} (left : ℕ) (x : A) (rest all : List A) → 0 < left → all ≡ x ∷ rest → drop left all ≡ drop (left - 1) rest
drop-next zero x rest all h e = absurd (omega (arith, h))
drop-next (suc left) x rest all h e = ap (drop (suc left)) e ∙ ap (λ k. drop k rest) (one-less left)

pub replicate-next : {A : Type 0} (left : ℕ) (x : A) → 0 < left → replicate left x ≡ x ∷ replicate (left - 1) x
replicate-next zero x h = absurd (omega (arith, h))
replicate-next (suc left) x h = ap (λ k. x ∷ replicate k x) (one-less left)

pub fewer : {A : Type 0} (left : ℕ) (x : A) (rest all : List A) → 0 < left → left ≤ length all → all ≡ x ∷ rest → left - 1 ≤ length rest
fewer left x rest all h few e = omega (arith, h, few, ap length e)

pub none-left : {A : Type 0} (left : ℕ) (all : List A) → 0 < left → left ≤ length all → all ≡ [] → ⊥
none-left left all h few e = omega (arith, h, few, ap length e)

-- ---- what holds of each

pub all-first : {A : Type 0} (P : A → Type 0) (x : A) (rest all : List A) → all ≡ x ∷ rest → All P all → P x
all-first P x rest all e h = (subst (All P) e h) 0 x (omega arith)

pub all-rest : {A : Type 0} (P : A → Type 0) (x : A) (rest all : List A) → all ≡ x ∷ rest → All P all → All P rest
all-rest P x rest all e h = λ k d below. (subst (All P) e h) (suc k) d (omega (arith, below))

-- ---- the steps of the first ones of a list

module _ {P : Type 0} (spec_of : P → SampleSpec) {X : Type 0} (f : X → Step P) where
  pub takes-next : (state next whole : State P) (x : X) (rest all : List X) (left : ℕ) → 0 < left → all ≡ x ∷ rest → next ≡ stepped spec_of state (f x)
      → stepped_by spec_of state (map f (take left all)) ≡ whole → stepped_by spec_of next (map f (take (left - 1) rest)) ≡ whole
  takes-next state next whole x rest all left h front e w =
      map-first spec_of f state next whole x (take (left - 1) rest) (take left all) (take-next left x rest all h front) e w

  pub takes-effects-next : (state next : State P) (x : X) (rest all : List X) (left : ℕ) (before after whole : List Effect) → 0 < left → all ≡ x ∷ rest
      → next ≡ stepped spec_of state (f x) → after ≡ before ++ effects_of spec_of state (f x)
      → before ++ effects_by spec_of state (map f (take left all)) ≡ whole → after ++ effects_by spec_of next (map f (take (left - 1) rest)) ≡ whole
  takes-effects-next state next x rest all left before after whole h front e a w =
      map-effects-first spec_of f state next x (take (left - 1) rest) (take left all) before after whole (take-next left x rest all h front) e a w

-- ---- the next message of a sink

pub next-first : {A : Type 0} (all : List A) (x : A) → first_of all ≡ Some x → all ≡ x ∷ rest_of all
next-first [] x e = cc
next-first (y ∷ ys) x e = ap (λ z. z ∷ ys) (same_Some y x e)

pub rest-next : {P : Type 0} (state next : State P) (sink : SinkId) → next ≡ handed_out sink state → waiting_for next sink ≡ rest_of (waiting_for state sink)
rest-next state next sink e = ap (λ t. waiting_for t sink) e ∙ waiting-past state sink

-- those that are left once it was handed out
pub outs-next : {P : Type 0} (spec_of : P → SampleSpec) (sink : SinkId) (state next whole : State P) (left : ℕ) → 0 < left → next ≡ handed_out sink state
    → stepped_by spec_of state (replicate left (out sink)) ≡ whole → stepped_by spec_of next (replicate (left - 1) (out sink)) ≡ whole
outs-next spec_of sink state next whole left h e w =
    step-first spec_of state next whole (out sink) (replicate (left - 1) (out sink)) e (ap (stepped_by spec_of state) (sym (replicate-next left (out sink) h)) ∙ w)

module _ {P : Type 0} (sink : SinkId) (state next : State P) (m : Msg P) (left : ℕ) where
  pub few-next : 0 < left → next ≡ handed_out sink state → next_for state sink ≡ Some m → left ≤ length (waiting_for state sink) → left - 1 ≤ length (waiting_for next sink)
  few-next h e n few =
      subst (λ l. left - 1 ≤ length l) (sym (rest-next state next sink e))
      (fewer left m (rest_of (waiting_for state sink)) (waiting_for state sink) h few (next-first (waiting_for state sink) m n))

pub messages-next : {P M : Type 0} (f : Msg P → M) (sink : SinkId) (state next : State P) (m : Msg P) (left : ℕ) (before after whole : List M) → 0 < left
    → next ≡ handed_out sink state → next_for state sink ≡ Some m → after ≡ before ++ f m ∷ []
    → before ++ map f (take left (waiting_for state sink)) ≡ whole → after ++ map f (take (left - 1) (waiting_for next sink)) ≡ whole
messages-next f sink state next m left before after whole h e n a w =
    ap (λ l. l ++ map f (take (left - 1) (waiting_for next sink))) a
    ∙ ap (λ l. (before ++ f m ∷ []) ++ map f (take (left - 1) l)) (rest-next state next sink e)
    ∙ append_assoc before (f m ∷ []) (map f (take (left - 1) (rest_of (waiting_for state sink))))
    ∙ ap (λ l. before ++ map f l) (sym (take-next left m (rest_of (waiting_for state sink)) (waiting_for state sink) h (next-first (waiting_for state sink) m n)))
    ∙ w
