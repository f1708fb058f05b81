-- The changes that sweep ended connections away are lawful: a connection goes once all its inputs have ended.
use Rattle.std.proofs.Common.{◌≡◌, ◌⊎◌, inl, inr, ℕ, ◌<◌, List, [], ◌∷◌, ◌++◌, Option, Some, None, Bool, true, false, refl, ap, sym, subst, ◌∙◌, arith, cond}
use Rattle.std.specs.Prelude.{◌&&◌, not, nat_eq, filter, flat_map}
use Rattle.std.specs.List.{AllByRecursion}
use Rattle.std.proofs.lemmas.Bool.{eqb-true, eqb-false, false≢true, and_parts}
use Rattle.std.proofs.lemmas.List.{append_assoc}
use Rattle.std.proofs.lemmas.Option.{none-some, same_Some}
use Rattle.px_types.specs.declared.ids.ConnId.{ConnId}
use Rattle.px_types.specs.declared.ids.InputId.{InputId}
use Rattle.px_outcome.specs.declared.change.Change.TheVariants.{Leaves, Forgotten}
use Rattle.px_outcome.specs.declared.input.Connection.{Connection}
use Rattle.px_outcome.specs.declared.input.Input.{Input}
use Rattle.px_outcome.specs.declared.input.Standing.{Standing}
use Rattle.px_outcome.specs.declared.input.Standing.TheVariants.{Settled, Moving, Leaving}
use Rattle.px_state.specs.State.{State, has_index, input_of, is_leaving, goes_on, is_from, marked_of}
use Rattle.px_state.specs.Change.{Change, change_first, leaving, ending, ending_of, changed}
use Rattle.px_core.specs.Connecting.{ends, swept, sweep_of}
use Rattle.px_core.specs.Consistency.{IsRising, AllAbove}
use Rattle.px_core.specs.Indexed.{inputs_from}
use Rattle.px_core.specs.Lawful.{AreLawful}
use Rattle.px_core.proofs.ListLaws.{all_weaken, all_change, found_test}
use Rattle.px_core.proofs.EntryLaws.{rising_change}
use Rattle.px_core.proofs.AnswerLaws.{IsLawful}

-- an input with this index is among these
abbrev IsIn : ℕ → List Input → Type 0
IsIn i [] = ⊥
IsIn i (x ∷ xs) = (x.index.0 ≡ i) ⊎ IsIn i xs

-- each live input of a connection is among these
abbrev AreIn : ConnId → List Input → List Input → Type 0
AreIn conn listed inputs = AllByRecursion (λ x. is_from conn x ≡ true → IsIn (Input.index x).0 listed) inputs

-- no live input has this index
abbrev NoneLive : ℕ → List Input → Type 0
NoneLive i inputs = AllByRecursion (λ x. (Input.index x).0 ≡ i → goes_on x ≡ false) inputs

never : (b : Bool) → (b && false) ≡ true → ⊥
never true e = false≢true e
never false e = false≢true e

-- ---- the inputs that were listed

all_listed : (q : Input → Bool) (xs : List Input) → AllByRecursion (λ x. q x ≡ true → IsIn (Input.index x).0 (filter q xs)) xs
all_listed q [] = tt
all_listed q (x ∷ xs) = (own (q x), all_weaken (λ y. q y ≡ true → IsIn (Input.index y).0 (filter q xs)) (λ y. q y ≡ true → IsIn (Input.index y).0 (filter q (x ∷ xs))) (λ y k e. more y.index.0 (q x) (k e)) xs (all_listed q xs))
  where
    own : (b : Bool) → b ≡ true → IsIn x.index.0 (cond b (x ∷ filter q xs) (filter q xs))
    own true e = inl refl
    own false e = absurd (false≢true e)

    more : (i : ℕ) (b : Bool) → IsIn i (filter q xs) → IsIn i (cond b (x ∷ filter q xs) (filter q xs))
    more i true k = inr k
    more i false k = k

none_listed : (conn : ConnId) (xs : List Input) → AreIn conn [] xs → inputs_from xs conn ≡ []
none_listed conn [] a = refl
none_listed conn (x ∷ xs) a = step (none_listed conn xs a.1) (is_from conn x) a.0
  where
    step : inputs_from xs conn ≡ [] → (b : Bool) → (b ≡ true → ⊥) → cond b (x ∷ inputs_from xs conn) (inputs_from xs conn) ≡ []
    step later true k = absurd (k refl)
    step later false k = later

-- ---- one ends

none_found : (i : InputId) (xs : List Input) → input_of xs i ≡ None → NoneLive i.0 xs
none_found i [] e = tt
none_found i (x ∷ xs) e = step (none_found i xs) (nat_eq x.index.0 i.0) refl e
  where
    step : (input_of xs i ≡ None → NoneLive i.0 xs) → (b : Bool) → nat_eq x.index.0 i.0 ≡ b → cond b (Some x) (input_of xs i) ≡ None → NoneLive i.0 (x ∷ xs)
    step later true t f = absurd (none-some x (sym f))
    step later false t f = ((λ same. absurd (eqb-false x.index.0 i.0 t same)), later f)

above_other : (i : ℕ) (xs : List Input) → AllAbove i xs → NoneLive i xs
above_other i xs a = all_weaken (λ x. i < (Input.index x).0) (λ x. (Input.index x).0 ≡ i → goes_on x ≡ false) (λ x l same. absurd (omega (arith, l, same))) xs a

-- the only one with its index
alone : (xs : List Input) → IsRising xs → (x : Input) → input_of xs x.index ≡ Some x → goes_on x ≡ false → NoneLive x.index.0 xs
alone [] r x here off = tt
alone (y ∷ ys) r x here off = step (alone ys r.1 x) (nat_eq y.index.0 x.index.0) refl here
  where
    step : (input_of ys x.index ≡ Some x → goes_on x ≡ false → NoneLive x.index.0 ys) → (b : Bool) → nat_eq y.index.0 x.index.0 ≡ b → cond b (Some y) (input_of ys x.index) ≡ Some x → NoneLive x.index.0 (y ∷ ys)
    step later true t f =
        ((λ same. ap (λ (z : Input). goes_on z) (same_Some y x f) ∙ off), above_other x.index.0 ys (subst (λ i. AllAbove i ys) (eqb-true y.index.0 x.index.0 t) r.0))
    step later false t f = ((λ same. absurd (eqb-false y.index.0 x.index.0 t same)), later f off)

left_alone : (xs : List Input) → IsRising xs → (i : InputId) → NoneLive i.0 (change_first (has_index i) leaving xs)
left_alone [] r i = tt
left_alone (y ∷ ys) r i = step (left_alone ys r.1 i) (nat_eq y.index.0 i.0) refl
  where
    step : NoneLive i.0 (change_first (has_index i) leaving ys) → (b : Bool) → nat_eq y.index.0 i.0 ≡ b → NoneLive i.0 (cond b (leaving y ∷ ys) (y ∷ change_first (has_index i) leaving ys))
    step later true t = ((λ same. refl), above_other i.0 ys (subst (λ n. AllAbove n ys) (eqb-true y.index.0 i.0 t) r.0))
    step later false t = ((λ same. absurd (eqb-false y.index.0 i.0 t same)), later)

-- ---- the inputs while connections are swept away: in rising index, and each live one among those that were live before

pub record AreLeft (before inputs : List Input) : Type 0 where
  pub rising : IsRising inputs
  pub each : (conn : ConnId) → AreIn conn (inputs_from before conn) inputs

-- after an input has ended
pub record HasEnded (before : List Input) (i : ℕ) (inputs after : List Input) : Type 0 where
  pub left : AreLeft before after
  pub over : NoneLive i after
  pub fewer : (conn : ConnId) (listed : List Input) → AreIn conn listed inputs → AreIn conn listed after

same_ended : (before : List Input) (i : ℕ) (inputs : List Input) → AreLeft before inputs → NoneLive i inputs → HasEnded before i inputs inputs
same_ended before i inputs h none = record { left = h; over = none; fewer = λ conn listed a. a }

fewer_live : (i : InputId) (conn : ConnId) (listed inputs : List Input) → AreIn conn listed inputs → AreIn conn listed (change_first (has_index i) leaving inputs)
fewer_live i conn listed inputs a =
    all_change (λ x. is_from conn x ≡ true → IsIn (Input.index x).0 listed) (has_index i) leaving (λ x k live. absurd (never (nat_eq x.conn.0 conn.0) live)) inputs a

left_ended : (before : List Input) (i : InputId) (inputs : List Input) → AreLeft before inputs → HasEnded before i.0 inputs (change_first (has_index i) leaving inputs)
left_ended before i inputs h = record {
  left = record {
    rising = rising_change (has_index i) leaving (λ x. refl) inputs h.rising;
    each = λ conn. fewer_live i conn (inputs_from before conn) inputs (h.each conn);
  };
  over = left_alone inputs h.rising i;
  fewer = λ conn listed a. fewer_live i conn listed inputs a;
}

input_ended : {P : Type 0} (before : List Input) (state : State P) → AreLeft before state.inputs → (i : InputId) (o : Option Input) → input_of state.inputs i ≡ o → HasEnded before i.0 state.inputs (ending_of o state).inputs
input_ended before state h i None e = same_ended before i.0 state.inputs h (none_found i state.inputs e)
input_ended {P} before state h i (Some x) e = subst (λ n. HasEnded before n state.inputs (ending_of (Some x) state).inputs) own (by x.standing refl)
  where
    own : x.index.0 ≡ i.0
    own = eqb-true x.index.0 i.0 (found_test (has_index i) state.inputs x e)

    here : input_of state.inputs x.index ≡ Some x
    here = ap (λ n. input_of state.inputs (record { 0 = n })) own ∙ e

    by : (standing : Standing) → x.standing ≡ standing → HasEnded before x.index.0 state.inputs (State.inputs (ending standing x state))
    by Settled is = left_ended before x.index state.inputs h
    by (Moving to) is = left_ended before x.index state.inputs h
    by Leaving is = same_ended before x.index.0 state.inputs h (alone state.inputs h.rising x here (ap (λ standing. not (is_leaving standing)) is))

-- it is listed no longer
one_less : (conn : ConnId) (y : Input) (ys : List Input) (inputs : List Input) → NoneLive y.index.0 inputs → AreIn conn (y ∷ ys) inputs → AreIn conn ys inputs
one_less conn y ys [] none a = tt
one_less conn y ys (x ∷ xs) none a = ((λ live. others live (a.0 live)), one_less conn y ys xs none.1 a.1)
  where
    others : is_from conn x ≡ true → IsIn x.index.0 (y ∷ ys) → IsIn x.index.0 ys
    others live (inl same) = absurd (false≢true (sym (none.0 (sym same)) ∙ (and_parts (nat_eq x.conn.0 conn.0) (goes_on x) live).1))
    others live (inr k) = k

-- ---- the changes

inputs_end : {P : Type 0} (before : List Input) (conn : ConnId) (ys : List Input) (rest : List (Change P)) → ((state : State P) → AreLeft before state.inputs → AreIn conn [] state.inputs → AreLawful state rest)
    → (state : State P) → AreLeft before state.inputs → AreIn conn ys state.inputs → AreLawful state (flat_map ends ys ++ rest)
inputs_end before conn [] rest lawful state h a = lawful state h a
inputs_end {P} before conn (y ∷ ys) rest lawful state h a =
    let one = input_ended before state h y.index (input_of state.inputs y.index) refl in
    (tt, inputs_end before conn ys rest lawful (changed state (Leaves y.index)) one.left (one_less conn y ys (State.inputs (changed state (Leaves y.index))) one.over (one.fewer conn (y ∷ ys) a)))

all_go : {P : Type 0} (before : List Input) (cs : List Connection) (state : State P) → AreLeft before state.inputs → AreLawful state (flat_map (swept before) cs)
all_go before [] state h = tt
all_go {P} before (c ∷ cs) state h =
    subst (AreLawful state) (sym (append_assoc (flat_map ends (inputs_from before c.conn)) (Forgotten c.conn ∷ []) (flat_map (swept before) cs)))
    (inputs_end before c.conn (inputs_from before c.conn) (Forgotten c.conn ∷ flat_map (swept before) cs) (λ s left none. (none_listed c.conn s.inputs none, all_go before cs (changed s (Forgotten c.conn)) left)) state h (h.each c.conn))

pub sweep_lawful : {P : Type 0} (state : State P) → IsRising state.inputs → IsLawful state (sweep_of state)
sweep_lawful state rising = all_go state.inputs (marked_of state.connections) state (record { rising = rising; each = λ conn. all_listed (is_from conn) state.inputs })
