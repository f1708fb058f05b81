-- What each change of inputs and messages keeps.
use Rattle.std.proofs.Common.{◌≡◌, ℕ, ◌<◌, ◌≤◌, List, [], ◌∷◌, ◌++◌, map, length, Some, None, Bool, true, false, refl, ap, sym, subst, ◌∙◌, arith, cond, ⊎_elim}
use Rattle.std.specs.Prelude.{◌+◌, ◌&&◌, filter, nat_eq, set, get_or, slice_get, IsSome, is_some}
use Rattle.std.specs.List.{AllByRecursion}
use Rattle.std.specs.Option.{option_to_list}
use Rattle.std.specs.FinMap as finite
use Rattle.std.proofs.lemmas.Bool.{eq-eqb, ne_eqb, false≢true, cases_eq, and_right, and_left, and_from}
use Rattle.std.proofs.lemmas.List.{append-nil, length-map, length-append, length-set, get_or-set_same, get_or-set_other}
use Rattle.std.proofs.lemmas.List.Elements.{filter-append}
use Rattle.std.proofs.lemmas.Option.{same_Some}
use Rattle.px_types.specs.declared.ids.InputId.{InputId}
use Rattle.px_types.specs.declared.ids.SinkId.{SinkId}
use Rattle.px_header.specs.declared.header.SinkSpec.{SinkSpec}
use Rattle.px_model.specs.declared.data.Attr.{Attr}
use Rattle.px_model.specs.Frame.{SampleSpec}
use Rattle.px_model.specs.Orderly.{Inputs, IsRepaired, NamesInput, Fits, inputs_left}
use Rattle.px_msg.specs.declared.message.Msg.{Msg}
use Rattle.px_msg.specs.declared.message.Msg.TheVariants.{New, Detach}
use Rattle.px_msg.specs.declared.message.NewStream.{NewStream}
use Rattle.px_msg.specs.View.{sample_spec}
use Rattle.px_outcome.specs.declared.input.Input.{Input}
use Rattle.px_outcome.specs.declared.input.Standing.{Standing}
use Rattle.px_outcome.specs.declared.input.Standing.TheVariants.{Settled, Moving, Leaving}
use Rattle.px_outcome.specs.declared.input.Way.TheVariants.{Coming, Left}
use Rattle.px_state.specs.State.{State, has_index, input_of, belongs_to, stays_on, is_bound_for, is_settled, bound_for, settled_on}
use Rattle.px_state.specs.Change.{change_first, drop_first, leaving, with_attr, posting, without_standing, ending}
use Rattle.px_ctl_play.specs.Asked.{MOST_ON_SINK}
use Rattle.px_core.specs.Orderly.{entry_of, spec_in, specs_of, is_held_by, is_there}
use Rattle.px_core.specs.Consistency.{AreInStep, AreAllInStep, IsInput, IsSteady, IsRising, IsPosted, is_coming_to, is_coming, brought_of}
use Rattle.px_core.proofs.ListLaws.{same_passed, same_left, no_more_pass, fewer_pass, all_change, all_drop, all_push, all_weaken, found_all}
use Rattle.px_core.proofs.EntryLaws.{get_in, here_in, in_same, removed, pushed, pushed_in, none_below, few_specs, rising_change, rising_drop, rising_push}
use Rattle.px_core.proofs.InStepLaws.{view, unmoved, posted}
use Rattle.px_core.proofs.GoingLaws.{still_waits, pushed_waits, others_wait, none_gone}

abbrev pub sink_at : ℕ → SinkId
sink_at k = record { 0 = k }

-- the inputs that a sink has
abbrev pub held_on : ℕ → List Input → List (ℕ × SampleSpec)
held_on k inputs = map entry_of (filter (is_held_by (sink_at k)) inputs)

-- ---- one list of messages is another

pub set_in_step : {P : Type 0} (spec_of : P → SampleSpec) (sinks : List SinkSpec) (inputs : List Input) (lists : List (List (Msg P))) (k : ℕ) (w : List (Msg P)) → k < length lists
    → ((s : SinkSpec) → slice_get sinks k ≡ Some s → AreInStep spec_of (sink_at k) s inputs w)
    → ((index : ℕ) (s : SinkSpec) → (index ≡ k → ⊥) → slice_get sinks index ≡ Some s → AreInStep spec_of (sink_at index) s inputs (get_or lists index []))
    → AreAllInStep spec_of sinks inputs (set lists k w)
set_in_step spec_of sinks inputs lists k w l this others index s e =
    ⊎_elim
    (λ (h : index ≡ k).
    subst (λ n. slice_get sinks n ≡ Some s → AreInStep spec_of (sink_at n) s inputs (get_or (set lists k w) n [])) (sym h)
    (λ g. subst (λ ms. AreInStep spec_of (sink_at k) s inputs ms) (sym (get_or-set_same lists k w [] l)) (this s g))
    e)
    (λ (h : index ≡ k → ⊥). subst (λ ms. AreInStep spec_of (sink_at index) s inputs ms) (sym (get_or-set_other lists k index w [] h)) (others index s h e))
    (cases_eq index k)

-- ---- an input that is settled

-- its sample spec is that of the map
pub settled_spec : (inputs : List Input) → IsRising inputs → (k : ℕ) (x : Input) → input_of inputs x.index ≡ Some x → is_settled (sink_at k) x ≡ true → finite.get (specs_of (settled_on inputs (sink_at k))) x.index.0 ≡ Some (sample_spec x.spec)
settled_spec inputs r k x here settled =
    get_in (is_settled (sink_at k)) inputs r x.index.0
    ∙ here_in (is_settled (sink_at k)) x.index inputs x here
    ∙ ap (λ b. cond b (Some (sample_spec x.spec)) None) settled

pub on_own : (x : Input) → x.standing ≡ Settled → is_settled (sink_at x.sink.0) x ≡ true
on_own x settled = ap (stays_on (sink_at x.sink.0) x.sink) settled ∙ eq-eqb x.sink.0 x.sink.0 refl

pub on_other : (k : ℕ) (x : Input) (b : Bool) → (k ≡ x.sink.0 → ⊥) → (nat_eq x.sink.0 k && b) ≡ false
on_other k x b h = and_left (nat_eq x.sink.0 k) b (ne_eqb x.sink.0 k (λ (e : x.sink.0 ≡ k). h (sym e)))

pub stays_off : (k : ℕ) (on : SinkId) → (k ≡ on.0 → ⊥) → (standing : Standing) → stays_on (sink_at k) on standing ≡ false
stays_off k on h Settled = ne_eqb on.0 k (λ (e : on.0 ≡ k). h (sym e))
stays_off k on h (Moving to) = refl
stays_off k on h Leaving = refl

-- one that doesn't stay is settled nowhere
pub unsettled : (k : ℕ) (x : Input) (standing : Standing) → x.standing ≡ standing → ((sink on : SinkId) → stays_on sink on standing ≡ false) → is_settled (sink_at k) x ≡ false
unsettled k x standing e none = ap (stays_on (sink_at k) x.sink) e ∙ none (sink_at k) x.sink

-- those that are settled on a sink are bound for it
pub settled_is_bound : (k : ℕ) (on : SinkId) (standing : Standing) → stays_on (sink_at k) on standing ≡ true → belongs_to (sink_at k) on standing ≡ true
settled_is_bound k on Settled e = e
settled_is_bound k on (Moving to) e = absurd (false≢true e)
settled_is_bound k on Leaving e = absurd (false≢true e)

pub fewer_settled : (k : ℕ) (inputs : List Input) → length (settled_on inputs (sink_at k)) ≤ length (bound_for inputs (sink_at k))
fewer_settled k inputs = fewer_pass (is_settled (sink_at k)) (is_bound_for (sink_at k)) (λ x. settled_is_bound k x.sink x.standing) inputs

-- ---- a message that leaves the inputs as they are

-- what it asks of the inputs of a sink
pub record IsPostable {P : Type 0} (spec_of : P → SampleSpec) (spec : SampleSpec) (there : Inputs) (m : Msg P) : Type 0 where
  pub brings : (i : ℕ) → brought_of spec_of i m ≡ []
  pub names : NamesInput there (view m)
  pub fits : Fits spec_of spec there (view m)
  pub left : inputs_left spec_of there (view m) ≡ there
  pub is_posted : IsPosted m

pub posting_keeps : {P : Type 0} (spec_of : P → SampleSpec) (state : State P) (sink : SinkId) (m : Msg P) → IsSteady spec_of state → sink.0 < length state.sinks
    → ((s : SinkSpec) → slice_get state.sinks sink.0 ≡ Some s → IsPostable spec_of (sample_spec s.spec) (specs_of (settled_on state.inputs sink)) m)
    → IsSteady spec_of (posting sink.0 m state)
posting_keeps spec_of state sink m h there postable = record {
  sinks = h.sinks;
  distinct = h.distinct;
  rising = h.rising;
  inputs = h.inputs;
  waiting = h.waiting;
  lists = length-set state.posted sink.0 (get_or state.posted sink.0 [] ++ m ∷ []) ∙ h.lists;
  in_step = set_in_step spec_of state.sinks state.inputs state.posted sink.0 (get_or state.posted sink.0 [] ++ m ∷ []) (subst (λ n. sink.0 < n) (sym h.lists) there)
      (λ s e.
      let it = postable s e in
      posted spec_of (sink_at sink.0) s state.inputs state.inputs (get_or state.posted sink.0 []) m refl
      (λ i. sym (append-nil (option_to_list (spec_in (is_coming_to (sink_at sink.0)) i state.inputs))) ∙ ap (λ more. option_to_list (spec_in (is_coming_to (sink_at sink.0)) i state.inputs) ++ more) (sym (it.brings i)))
      it.names it.fits it.left it.is_posted (h.in_step sink.0 s e).few (h.in_step sink.0 s e))
      (λ index s apart e. h.in_step index s e);
}

-- ---- an input has other buffer attributes

attr_input : (sinks : List SinkSpec) (made : ℕ) (attr : Attr) → IsRepaired attr → (y : Input) → IsInput sinks made y → IsInput sinks made (with_attr attr y)
attr_input sinks made attr repaired y k = record { given = k.given; sink_there = k.sink_there; goes_there = k.goes_there; playable = k.playable; map = k.map; repaired = repaired }

module _ (index : InputId) (attr : Attr) (inputs : List Input) where
  abbrev with_own : List Input
  with_own = change_first (has_index index) (with_attr attr) inputs

  pub attr_held : (k : ℕ) → held_on k with_own ≡ held_on k inputs
  attr_held k = same_passed (is_held_by (sink_at k)) (has_index index) (with_attr attr) entry_of inputs (λ y found. refl) (λ y. refl)

  attr_settled : (k : ℕ) → map entry_of (settled_on with_own (sink_at k)) ≡ map entry_of (settled_on inputs (sink_at k))
  attr_settled k = same_passed (is_settled (sink_at k)) (has_index index) (with_attr attr) entry_of inputs (λ y found. refl) (λ y. refl)

  attr_rising : IsRising inputs → IsRising with_own
  attr_rising r = rising_change (has_index index) (with_attr attr) (λ y. refl) inputs r

  attr_coming : IsRising inputs → (k i : ℕ) → spec_in (is_coming_to (sink_at k)) i with_own ≡ spec_in (is_coming_to (sink_at k)) i inputs
  attr_coming r k i =
      in_same (is_coming_to (sink_at k)) with_own inputs (attr_rising r) r
      (same_passed (is_coming_to (sink_at k)) (has_index index) (with_attr attr) entry_of inputs (λ y found. refl) (λ y. refl)) i

  attr_bound : (k : ℕ) → length (bound_for with_own (sink_at k)) ≤ length (bound_for inputs (sink_at k))
  attr_bound k = no_more_pass (is_bound_for (sink_at k)) (has_index index) (with_attr attr) (λ y t. t) inputs

pub attr_keeps : {P : Type 0} (spec_of : P → SampleSpec) (state : State P) (index : InputId) (attr : Attr) → IsRepaired attr → IsSteady spec_of state → IsSteady spec_of (record state { inputs = change_first (has_index index) (with_attr attr) state.inputs })
attr_keeps spec_of state index attr repaired h = record {
  sinks = h.sinks;
  distinct = h.distinct;
  rising = attr_rising index attr state.inputs h.rising;
  inputs = all_change (IsInput state.sinks state.inputs_made) (has_index index) (with_attr attr) (attr_input state.sinks state.inputs_made attr repaired) state.inputs h.inputs;
  waiting = still_waits (has_index index) (with_attr attr) (λ y. refl) (λ y t. t) state.inputs state.waiting h.waiting;
  lists = h.lists;
  in_step = λ k s e. unmoved spec_of (sink_at k) s state.inputs (with_own index attr state.inputs) (get_or state.posted k []) (attr_held index attr state.inputs k)
      (attr_settled index attr state.inputs k)
      (attr_coming index attr state.inputs h.rising k) (attr_bound index attr state.inputs k) (h.in_step k s e);
}

-- ---- an input ends

still_input : (sinks : List SinkSpec) (made : ℕ) (y : Input) → IsInput sinks made y → IsInput sinks made (leaving y)
still_input sinks made y k = record { given = k.given; sink_there = k.sink_there; goes_there = tt; playable = k.playable; map = k.map; repaired = k.repaired }

module _ (inputs : List Input) (x : Input) where
  ended_held : (k : ℕ) → held_on k (change_first (has_index x.index) leaving inputs) ≡ held_on k inputs
  ended_held k = same_passed (is_held_by (sink_at k)) (has_index x.index) leaving entry_of inputs (λ y found. refl) (λ y. refl)

  ended_rising : IsRising inputs → IsRising (change_first (has_index x.index) leaving inputs)
  ended_rising r = rising_change (has_index x.index) leaving (λ y. refl) inputs r

  ended_coming : IsRising inputs → (k i : ℕ) → spec_in (is_coming_to (sink_at k)) i (change_first (has_index x.index) leaving inputs) ≡ spec_in (is_coming_to (sink_at k)) i inputs
  ended_coming r k i =
      in_same (is_coming_to (sink_at k)) (change_first (has_index x.index) leaving inputs) inputs (ended_rising r) r
      (same_passed (is_coming_to (sink_at k)) (has_index x.index) leaving entry_of inputs (λ y found. refl) (λ y. refl)) i

  ended_bound : (k : ℕ) → length (bound_for (change_first (has_index x.index) leaving inputs) (sink_at k)) ≤ length (bound_for inputs (sink_at k))
  ended_bound k = no_more_pass (is_bound_for (sink_at k)) (has_index x.index) leaving (λ y t. absurd (false≢true t)) inputs

  -- where it wasn't settled those that are settled stay
  ended_settled : input_of inputs x.index ≡ Some x → (k : ℕ) → is_settled (sink_at k) x ≡ false → map entry_of (settled_on (change_first (has_index x.index) leaving inputs) (sink_at k)) ≡ map entry_of (settled_on inputs (sink_at k))
  ended_settled here k off =
      same_passed (is_settled (sink_at k)) (has_index x.index) leaving entry_of inputs
      (λ y found. sym (subst (λ z. is_settled (sink_at k) z ≡ false) (same_Some x y (sym here ∙ found)) off))
      (λ y. refl)

settled_ends : {P : Type 0} (spec_of : P → SampleSpec) (state : State P) (x : Input) → IsSteady spec_of state → input_of state.inputs x.index ≡ Some x → x.standing ≡ Settled → IsSteady spec_of (posting x.sink.0 (Detach x.index) (without_standing x.index state))
settled_ends {P} spec_of state x h here settled = record {
  sinks = h.sinks;
  distinct = h.distinct;
  rising = ended_rising state.inputs x h.rising;
  inputs = all_change (IsInput state.sinks state.inputs_made) (has_index x.index) leaving (still_input state.sinks state.inputs_made) state.inputs h.inputs;
  waiting = others_wait state.inputs x here state.waiting h.waiting;
  lists = length-set state.posted x.sink.0 (get_or state.posted x.sink.0 [] ++ Detach x.index ∷ []) ∙ h.lists;
  in_step = set_in_step spec_of state.sinks (change_first (has_index x.index) leaving state.inputs) state.posted x.sink.0 (get_or state.posted x.sink.0 [] ++ Detach x.index ∷ []) (subst (λ n. x.sink.0 < n) (sym h.lists) (found_all (IsInput state.sinks state.inputs_made) (has_index x.index) state.inputs x h.inputs here).sink_there)
      (λ s e. posted spec_of (sink_at x.sink.0) s state.inputs (change_first (has_index x.index) leaving state.inputs) (get_or state.posted x.sink.0 []) (Detach x.index) (ended_held state.inputs x x.sink.0)
      (λ i. ap option_to_list (ended_coming state.inputs x h.rising x.sink.0 i) ∙ sym (append-nil (option_to_list (spec_in (is_coming_to (sink_at x.sink.0)) i state.inputs))))
      (subst IsSome (sym (settled_spec state.inputs h.rising x.sink.0 x here (on_own x settled))) refl)
      tt
      (removed (is_settled (sink_at x.sink.0)) x.index leaving (λ y. refl) state.inputs h.rising x here refl)
      tt
      (omega (arith, ended_bound state.inputs x x.sink.0, (h.in_step x.sink.0 s e).few))
      (h.in_step x.sink.0 s e))
      (λ index s apart e. unmoved spec_of (sink_at index) s state.inputs (change_first (has_index x.index) leaving state.inputs) (get_or state.posted index []) (ended_held state.inputs x index)
      (ended_settled state.inputs x here index (stays_off index x.sink apart x.standing))
      (ended_coming state.inputs x h.rising index) (ended_bound state.inputs x index) (h.in_step index s e));
}

moving_ends : {P : Type 0} (spec_of : P → SampleSpec) (state : State P) (x : Input) (to : SinkId) → IsSteady spec_of state → input_of state.inputs x.index ≡ Some x → x.standing ≡ Moving to → IsSteady spec_of (without_standing x.index state)
moving_ends {P} spec_of state x to h here moves = record {
  sinks = h.sinks;
  distinct = h.distinct;
  rising = ended_rising state.inputs x h.rising;
  inputs = all_change (IsInput state.sinks state.inputs_made) (has_index x.index) leaving (still_input state.sinks state.inputs_made) state.inputs h.inputs;
  waiting = others_wait state.inputs x here state.waiting h.waiting;
  lists = h.lists;
  in_step = λ index s e. unmoved spec_of (sink_at index) s state.inputs (change_first (has_index x.index) leaving state.inputs) (get_or state.posted index []) (ended_held state.inputs x index)
      (ended_settled state.inputs x here index (unsettled index x (Moving to) moves (λ sink on. refl)))
      (ended_coming state.inputs x h.rising index) (ended_bound state.inputs x index) (h.in_step index s e);
}

pub ending_keeps : {P : Type 0} (spec_of : P → SampleSpec) (state : State P) (x : Input) (standing : Standing) → IsSteady spec_of state → input_of state.inputs x.index ≡ Some x → x.standing ≡ standing → IsSteady spec_of (ending standing x state)
ending_keeps spec_of state x Settled h here e = settled_ends spec_of state x h here e
ending_keeps spec_of state x (Moving to) h here e = moving_ends spec_of state x to h here e
ending_keeps spec_of state x Leaving h here e = h

pub ending_held : {P : Type 0} (state : State P) (x : Input) (standing : Standing) (k : ℕ) → held_on k (ending standing x state).inputs ≡ held_on k state.inputs
ending_held state x Settled k = ended_held state.inputs x k
ending_held state x (Moving to) k = ended_held state.inputs x k
ending_held state x Leaving k = refl

-- ---- an input goes, that has ended and left its sink

pub gone_keeps : {P : Type 0} (spec_of : P → SampleSpec) (state : State P) (x : Input) → IsSteady spec_of state → input_of state.inputs x.index ≡ Some x → x.standing ≡ Leaving → x.way ≡ Left → IsSteady spec_of (record state { inputs = drop_first (has_index x.index) state.inputs })
gone_keeps {P} spec_of state x h here leaves left = record {
  sinks = h.sinks;
  distinct = h.distinct;
  rising = rising_drop (has_index x.index) state.inputs h.rising;
  inputs = all_drop (IsInput state.sinks state.inputs_made) (has_index x.index) state.inputs h.inputs;
  waiting = none_gone state.inputs x here leaves state.waiting h.waiting;
  lists = h.lists;
  in_step = λ index s e. unmoved spec_of (sink_at index) s state.inputs (drop_first (has_index x.index) state.inputs) (get_or state.posted index [])
      (ap (map entry_of) (without (is_held_by (sink_at index)) (and_right (nat_eq x.sink.0 index) (is_there x.way) (ap is_there left))))
      (ap (map entry_of) (without (is_settled (sink_at index)) (unsettled index x Leaving leaves (λ sink on. refl))))
      (in_same (is_coming_to (sink_at index)) (drop_first (has_index x.index) state.inputs) state.inputs (rising_drop (has_index x.index) state.inputs h.rising) h.rising
      (ap (map entry_of) (without (is_coming_to (sink_at index)) (and_right (nat_eq x.sink.0 index) (is_coming x.way) (ap is_coming left)))))
      (let same = ap length (without (is_bound_for (sink_at index)) (ap (belongs_to (sink_at index) x.sink) leaves)) in omega (arith, same))
      (h.in_step index s e);
}
  where
    without : (p : Input → Bool) → p x ≡ false → filter p (drop_first (has_index x.index) state.inputs) ≡ filter p state.inputs
    without p e = same_left p (has_index x.index) state.inputs (λ y found. subst (λ z. p z ≡ false) (same_Some x y (sym here ∙ found)) e)

pub gone_held : {P : Type 0} (state : State P) (x : Input) → input_of state.inputs x.index ≡ Some x → x.way ≡ Left → (k : ℕ) → held_on k (drop_first (has_index x.index) state.inputs) ≡ held_on k state.inputs
gone_held state x here left k =
    ap (map entry_of)
    (same_left (is_held_by (sink_at k)) (has_index x.index) state.inputs (λ y found. subst (λ z. is_held_by (sink_at k) z ≡ false) (same_Some x y (sym here ∙ found)) (and_right (nat_eq x.sink.0 k) (is_there x.way) (ap is_there left))))

-- ---- an input is made, and its stream is posted

pub made_inputs : (sinks : List SinkSpec) (made : ℕ) (inputs : List Input) (x : Input) → AllByRecursion (IsInput sinks made) inputs → IsInput sinks (made + 1) x → AllByRecursion (IsInput sinks (made + 1)) (inputs ++ x ∷ [])
made_inputs sinks made inputs x h k =
    all_push (IsInput sinks (made + 1)) inputs x
    (all_weaken (IsInput sinks made) (IsInput sinks (made + 1)) (λ y i. record { given = omega (arith, i.given); sink_there = i.sink_there; goes_there = i.goes_there; playable = i.playable; map = i.map; repaired = i.repaired }) inputs h)
    k

pub pushed_other : (p : Input → Bool) (inputs : List Input) (x : Input) → p x ≡ false → filter p (inputs ++ x ∷ []) ≡ filter p inputs
pushed_other p inputs x e = filter-append p inputs (x ∷ []) ∙ ap (λ b. filter p inputs ++ cond b (x ∷ []) []) e ∙ append-nil (filter p inputs)

pub pushed_own : (p : Input → Bool) (inputs : List Input) (x : Input) → p x ≡ true → filter p (inputs ++ x ∷ []) ≡ filter p inputs ++ x ∷ []
pushed_own p inputs x e = filter-append p inputs (x ∷ []) ∙ ap (λ b. filter p inputs ++ cond b (x ∷ []) []) e

abbrev pub with_input : {P : Type 0} → Input → State P → State P
with_input x state = record state { inputs = state.inputs ++ x ∷ []; inputs_made = state.inputs_made + 1 }

pub new_keeps : {P : Type 0} (spec_of : P → SampleSpec) (state : State P) (x : Input) (n : NewStream) → IsSteady spec_of state
    → x.index.0 ≡ state.inputs_made
    → x.way ≡ Coming → x.standing ≡ Settled
    → IsInput state.sinks (state.inputs_made + 1) x
    → n.input.0 ≡ x.index.0 → n.spec ≡ x.spec
    → length (bound_for state.inputs (sink_at x.sink.0)) < MOST_ON_SINK
    → ((s : SinkSpec) → slice_get state.sinks x.sink.0 ≡ Some s → Fits spec_of (sample_spec s.spec) (specs_of (settled_on state.inputs (sink_at x.sink.0))) (view (New n)))
    → IsSteady spec_of (posting x.sink.0 (New n) (with_input x state))
new_keeps {P} spec_of state x n h fresh coming goes is same_index same_spec room fits = record {
  sinks = h.sinks;
  distinct = h.distinct;
  rising = rising;
  inputs = made_inputs state.sinks state.inputs_made state.inputs x h.inputs is;
  waiting = pushed_waits state.inputs x state.waiting h.waiting;
  lists = length-set state.posted x.sink.0 (get_or state.posted x.sink.0 [] ++ New n ∷ []) ∙ h.lists;
  in_step = set_in_step spec_of state.sinks (state.inputs ++ x ∷ []) state.posted x.sink.0 (get_or state.posted x.sink.0 [] ++ New n ∷ []) (subst (λ n. x.sink.0 < n) (sym h.lists) is.sink_there)
      (λ s e. posted spec_of (sink_at x.sink.0) s state.inputs (state.inputs ++ x ∷ []) (get_or state.posted x.sink.0 []) (New n)
      (ap (map entry_of) (pushed_other (is_held_by (sink_at x.sink.0)) state.inputs x (held x.sink.0)))
      (λ i. pushed_in (is_coming_to (sink_at x.sink.0)) state.inputs x below (comes x.sink.0 refl) i
      ∙ (λ k. option_to_list (spec_in (is_coming_to (sink_at x.sink.0)) i state.inputs) ++ cond (nat_eq (sym same_index k) i) (sample_spec (sym same_spec k) ∷ []) []))
      (record {
        absent = ap is_some (ap (finite.get (specs_of (settled_on state.inputs (sink_at x.sink.0)))) same_index ∙ get_in (is_settled (sink_at x.sink.0)) state.inputs h.rising x.index.0 ∙ none_below (is_settled (sink_at x.sink.0)) x.index.0 state.inputs below);
        room = omega (arith, few_specs (map entry_of (settled_on state.inputs (sink_at x.sink.0))), length-map (settled_on state.inputs (sink_at x.sink.0)) entry_of, fewer_settled x.sink.0 state.inputs, room);
      })
      (fits s e)
      ((λ i. finite.insert (specs_of (settled_on state.inputs (sink_at x.sink.0))) (same_index i) (sample_spec (same_spec i)))
      ∙ pushed (is_settled (sink_at x.sink.0)) state.inputs h.rising x below (on_own x goes))
      tt
      (subst (λ xs. length xs ≤ MOST_ON_SINK) (sym (pushed_own (is_bound_for (sink_at x.sink.0)) state.inputs x (settled_is_bound x.sink.0 x.sink x.standing (on_own x goes))))
      (omega (arith, length-append (bound_for state.inputs (sink_at x.sink.0)) (x ∷ []), room)))
      (h.in_step x.sink.0 s e))
      (λ index s apart e. unmoved spec_of (sink_at index) s state.inputs (state.inputs ++ x ∷ []) (get_or state.posted index [])
      (ap (map entry_of) (pushed_other (is_held_by (sink_at index)) state.inputs x (held index)))
      (ap (map entry_of) (pushed_other (is_settled (sink_at index)) state.inputs x (stays_off index x.sink apart x.standing)))
      (in_same (is_coming_to (sink_at index)) (state.inputs ++ x ∷ []) state.inputs rising h.rising (ap (map entry_of) (pushed_other (is_coming_to (sink_at index)) state.inputs x (on_other index x (is_coming x.way) apart))))
      (let same = ap length (pushed_other (is_bound_for (sink_at index)) state.inputs x (ap (belongs_to (sink_at index) x.sink) goes ∙ stays_off index x.sink apart Settled)) in omega (arith, same))
      (h.in_step index s e));
}
  where
    below : AllByRecursion (λ y. (Input.index y).0 < x.index.0) state.inputs
    below = all_weaken (IsInput state.sinks state.inputs_made) (λ y. (Input.index y).0 < x.index.0) (λ y i. omega (arith, i.given, fresh)) state.inputs h.inputs

    rising : IsRising (state.inputs ++ x ∷ [])
    rising = rising_push state.inputs x h.rising below

    held : (k : ℕ) → is_held_by (sink_at k) x ≡ false
    held k = and_right (nat_eq x.sink.0 k) (is_there x.way) (ap is_there coming)

    comes : (k : ℕ) → x.sink.0 ≡ k → is_coming_to (sink_at k) x ≡ true
    comes k e = and_from (nat_eq x.sink.0 k) (is_coming x.way) (eq-eqb x.sink.0 k e) (ap is_coming coming)

pub new_held : (inputs : List Input) (x : Input) → x.way ≡ Coming → (k : ℕ) → held_on k (inputs ++ x ∷ []) ≡ held_on k inputs
new_held inputs x coming k = ap (map entry_of) (pushed_other (is_held_by (sink_at k)) inputs x (and_right (nat_eq x.sink.0 k) (is_there x.way) (ap is_there coming)))
