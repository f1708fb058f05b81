-- What a move of an input keeps: its sink is to give up its stream, and once it has, another is to have it.
use Rattle.std.proofs.Common.{◌≡◌, ℕ, ◌<◌, ◌≤◌, List, [], ◌∷◌, ◌++◌, map, length, Some, None, Bool, true, false, refl, ap, sym, subst, ◌∙◌, arith, cond, ⊎_elim}
use Rattle.std.specs.Prelude.{filter, nat_eq, get_or, slice_get, IsSome, is_some}
use Rattle.std.specs.Option.{option_to_list}
use Rattle.std.specs.FinMap as finite
use Rattle.std.proofs.lemmas.Bool.{eqb-true, eq-eqb, ne_eqb, cases_eq, and_right, and_left, and_from}
use Rattle.std.proofs.lemmas.List.{append-nil, length-map, length-set}
use Rattle.std.proofs.lemmas.Option.{same_Some}
use Rattle.px_types.specs.declared.ids.SinkId.{SinkId}
use Rattle.px_header.specs.declared.header.SinkSpec.{SinkSpec}
use Rattle.px_model.specs.Frame.{SampleSpec}
use Rattle.px_model.specs.Orderly.{IsParcel}
use Rattle.px_msg.specs.declared.message.Msg.TheVariants.{Attach, Detach}
use Rattle.px_msg.specs.View.{sample_spec}
use Rattle.px_outcome.specs.declared.input.Input.{Input}
use Rattle.px_outcome.specs.declared.input.Standing.TheVariants.{Settled, Moving}
use Rattle.px_outcome.specs.declared.input.Way.TheVariants.{Left}
use Rattle.px_state.specs.State.{State, has_index, input_of, belongs_to, is_bound_for, is_settled, bound_for, settled_on}
use Rattle.px_state.specs.Change.{change_first, moving_to, arrived_at, departing, arriving}
use Rattle.px_ctl_play.specs.Asked.{MOST_ON_SINK}
use Rattle.px_core.specs.Orderly.{entry_of, spec_in, specs_of, is_held_by, is_there}
use Rattle.px_core.specs.Consistency.{IsFedAt, GoesTo, IsInput, IsSteady, IsRising, is_coming_to, is_coming}
use Rattle.px_core.proofs.ListLaws.{same_passed, no_more_pass, one_more_passes, fewer_by_one, all_change, all_change_found, found_all}
use Rattle.px_core.proofs.EntryLaws.{get_in, here_in, in_same, removed, inserted, arrived_in, few_specs, rising_change}
use Rattle.px_core.proofs.InStepLaws.{unmoved, still_few, posted}
use Rattle.px_core.proofs.GoingLaws.{still_waits}
use Rattle.px_core.proofs.ChangeLaws.{sink_at, held_on, set_in_step, settled_spec, on_own, stays_off, unsettled, settled_is_bound}

-- ---- an input is to move: its sink is to give up its stream

module _ (to : SinkId) (inputs : List Input) (x : Input) where
  abbrev departed : List Input
  departed = change_first (has_index x.index) (moving_to to) inputs

  pub departed_held : (k : ℕ) → held_on k departed ≡ held_on k inputs
  departed_held k = same_passed (is_held_by (sink_at k)) (has_index x.index) (moving_to to) entry_of inputs (λ y found. refl) (λ y. refl)

  departed_rising : IsRising inputs → IsRising departed
  departed_rising r = rising_change (has_index x.index) (moving_to to) (λ y. refl) inputs r

  departed_coming : IsRising inputs → (k i : ℕ) → spec_in (is_coming_to (sink_at k)) i departed ≡ spec_in (is_coming_to (sink_at k)) i inputs
  departed_coming r k i =
      in_same (is_coming_to (sink_at k)) departed inputs (departed_rising r) r
      (same_passed (is_coming_to (sink_at k)) (has_index x.index) (moving_to to) entry_of inputs (λ y found. refl) (λ y. refl)) i

  -- where it wasn't settled those that are settled stay
  departed_settled : input_of inputs x.index ≡ Some x → (k : ℕ) → is_settled (sink_at k) x ≡ false → map entry_of (settled_on departed (sink_at k)) ≡ map entry_of (settled_on inputs (sink_at k))
  departed_settled here k off =
      same_passed (is_settled (sink_at k)) (has_index x.index) (moving_to to) entry_of inputs
      (λ y found. sym (subst (λ z. is_settled (sink_at k) z ≡ false) (same_Some x y (sym here ∙ found)) off))
      (λ y. refl)

  -- no more are bound for a sink than it can have
  departed_few : length (bound_for inputs to) < MOST_ON_SINK → (k : ℕ) → length (bound_for inputs (sink_at k)) ≤ MOST_ON_SINK → length (bound_for departed (sink_at k)) ≤ MOST_ON_SINK
  departed_few room k few =
      ⊎_elim
      (λ (e : k ≡ to.0).
      let less : length (bound_for inputs (sink_at k)) < MOST_ON_SINK = subst (λ n. length (bound_for inputs (sink_at n)) < MOST_ON_SINK) (sym e) room in
      omega (arith, one_more_passes (is_bound_for (sink_at k)) (has_index x.index) (moving_to to) inputs, less))
      (λ (apart : k ≡ to.0 → ⊥).
      omega (arith, no_more_pass (is_bound_for (sink_at k)) (has_index x.index) (moving_to to) (λ y t. absurd (apart (sym (eqb-true to.0 k t)))) inputs, few))
      (cases_eq k to.0)

departing_input : (sinks : List SinkSpec) (made : ℕ) (to : SinkId) (y : Input) → GoesTo sinks y.sink (IsFedAt y) to → IsInput sinks made y → IsInput sinks made (moving_to to y)
departing_input sinks made to y goes k = record { given = k.given; sink_there = k.sink_there; goes_there = goes; playable = k.playable; map = k.map; repaired = k.repaired }

pub departing_keeps : {P : Type 0} (spec_of : P → SampleSpec) (state : State P) (x : Input) (to : SinkId) → IsSteady spec_of state → input_of state.inputs x.index ≡ Some x → x.standing ≡ Settled → GoesTo state.sinks x.sink (IsFedAt x) to → length (bound_for state.inputs to) < MOST_ON_SINK
    → IsSteady spec_of (departing to x state)
departing_keeps {P} spec_of state x to h here settled goes room = record {
  sinks = h.sinks;
  distinct = h.distinct;
  rising = departed_rising to state.inputs x h.rising;
  inputs = all_change_found (IsInput state.sinks state.inputs_made) (has_index x.index) (moving_to to) state.inputs
      (λ y found k. departing_input state.sinks state.inputs_made to y (subst (λ (z : Input). GoesTo state.sinks z.sink (IsFedAt z) to) (same_Some x y (sym here ∙ found)) goes) k) h.inputs;
  waiting = still_waits (has_index x.index) (moving_to to) (λ y. refl) (λ y t. refl) state.inputs state.waiting h.waiting;
  lists = length-set state.posted x.sink.0 (get_or state.posted x.sink.0 [] ++ Detach x.index ∷ []) ∙ h.lists;
  in_step = set_in_step spec_of state.sinks (departed to state.inputs x) state.posted x.sink.0 (get_or state.posted x.sink.0 [] ++ Detach x.index ∷ []) (subst (λ n. x.sink.0 < n) (sym h.lists) (found_all (IsInput state.sinks state.inputs_made) (has_index x.index) state.inputs x h.inputs here).sink_there)
      (λ s e. posted spec_of (sink_at x.sink.0) s state.inputs (departed to state.inputs x) (get_or state.posted x.sink.0 []) (Detach x.index) (departed_held to state.inputs x x.sink.0)
      (λ i. ap option_to_list (departed_coming to state.inputs x h.rising x.sink.0 i) ∙ sym (append-nil (option_to_list (spec_in (is_coming_to (sink_at x.sink.0)) i state.inputs))))
      (subst IsSome (sym (settled_spec state.inputs h.rising x.sink.0 x here (on_own x settled))) refl)
      tt
      (removed (is_settled (sink_at x.sink.0)) x.index (moving_to to) (λ y. refl) state.inputs h.rising x here refl)
      tt
      (departed_few to state.inputs x room x.sink.0 (h.in_step x.sink.0 s e).few)
      (h.in_step x.sink.0 s e))
      (λ index s apart e. still_few spec_of (sink_at index) s state.inputs (departed to state.inputs x) (get_or state.posted index []) (departed_held to state.inputs x index)
      (departed_settled to state.inputs x here index (stays_off index x.sink apart x.standing))
      (departed_coming to state.inputs x h.rising index) (departed_few to state.inputs x room index (h.in_step index s e).few) (h.in_step index s e));
}

-- ---- its sink has given up its stream, and another is to have it

module _ (to : SinkId) (inputs : List Input) (x : Input) (here : input_of inputs x.index ≡ Some x) (moves : x.standing ≡ Moving to) (left : x.way ≡ Left) where
  abbrev brought : List Input
  brought = change_first (has_index x.index) (arrived_at to) inputs

  -- where a test tells it no otherwise than before
  as_before : (p : Input → Bool) → p (arrived_at to x) ≡ p x → map entry_of (filter p brought) ≡ map entry_of (filter p inputs)
  as_before p e = same_passed p (has_index x.index) (arrived_at to) entry_of inputs (λ y found. subst (λ z. p (arrived_at to z) ≡ p z) (same_Some x y (sym here ∙ found)) e) (λ y. refl)

  brought_rising : IsRising inputs → IsRising brought
  brought_rising r = rising_change (has_index x.index) (arrived_at to) (λ y. refl) inputs r

  pub brought_held : (k : ℕ) → held_on k brought ≡ held_on k inputs
  brought_held k = as_before (is_held_by (sink_at k)) (and_right (nat_eq to.0 k) false refl ∙ sym (and_right (nat_eq x.sink.0 k) (is_there x.way) (ap is_there left)))

  no_more_comes : (k : ℕ) → is_coming_to (sink_at k) x ≡ false
  no_more_comes k = and_right (nat_eq x.sink.0 k) (is_coming x.way) (ap is_coming left)

  brought_coming : IsRising inputs → (k : ℕ) → (k ≡ to.0 → ⊥) → (i : ℕ) → spec_in (is_coming_to (sink_at k)) i brought ≡ spec_in (is_coming_to (sink_at k)) i inputs
  brought_coming r k apart i =
      in_same (is_coming_to (sink_at k)) brought inputs (brought_rising r) r
      (as_before (is_coming_to (sink_at k)) (and_left (nat_eq to.0 k) true (ne_eqb to.0 k (λ (e : to.0 ≡ k). apart (sym e))) ∙ sym (no_more_comes k))) i

  not_settled : (k : ℕ) → is_settled (sink_at k) x ≡ false
  not_settled k = unsettled k x (Moving to) moves (λ sink on. refl)

  brought_settled : (k : ℕ) → (k ≡ to.0 → ⊥) → map entry_of (settled_on brought (sink_at k)) ≡ map entry_of (settled_on inputs (sink_at k))
  brought_settled k apart = as_before (is_settled (sink_at k)) (stays_off k to apart Settled ∙ sym (not_settled k))

  is_bound : (k : ℕ) → is_bound_for (sink_at k) x ≡ nat_eq to.0 k
  is_bound k = ap (belongs_to (sink_at k) x.sink) moves

  brought_bound : (k : ℕ) → length (bound_for brought (sink_at k)) ≡ length (bound_for inputs (sink_at k))
  brought_bound k =
      sym (length-map (bound_for brought (sink_at k)) entry_of)
      ∙ ap length (as_before (is_bound_for (sink_at k)) (sym (is_bound k)))
      ∙ length-map (bound_for inputs (sink_at k)) entry_of

  -- so many are settled on its new sink that there is room for it
  room_there : length (bound_for inputs (sink_at to.0)) ≤ MOST_ON_SINK → length (settled_on inputs (sink_at to.0)) < MOST_ON_SINK
  room_there few =
      omega (
        arith,
        few,
        fewer_by_one (is_settled (sink_at to.0)) (is_bound_for (sink_at to.0)) (λ y. settled_is_bound to.0 y.sink y.standing) (has_index x.index) inputs x here
            (not_settled to.0) (is_bound to.0 ∙ eq-eqb to.0 to.0 refl),
      )

arriving_input : (sinks : List SinkSpec) (made : ℕ) (to : SinkId) → to.0 < length sinks → (y : Input) → IsInput sinks made y → IsInput sinks made (arrived_at to y)
arriving_input sinks made to there y k = record { given = k.given; sink_there = there; goes_there = tt; playable = k.playable; map = k.map; repaired = k.repaired }

pub arriving_keeps : {P : Type 0} (spec_of : P → SampleSpec) (state : State P) (x : Input) (to : SinkId) (parcel : P) (feed factors : List ℕ) → IsSteady spec_of state → input_of state.inputs x.index ≡ Some x → x.standing ≡ Moving to → x.way ≡ Left → to.0 < length state.sinks
    → spec_of parcel ≡ sample_spec x.spec
    → ((s : SinkSpec) → slice_get state.sinks to.0 ≡ Some s → IsParcel (sample_spec s.spec) (spec_of parcel) feed factors)
    → IsSteady spec_of (arriving to x (Attach x.index parcel feed factors) state)
arriving_keeps {P} spec_of state x to parcel feed factors h here moves left there same fits = record {
  sinks = h.sinks;
  distinct = h.distinct;
  rising = brought_rising to state.inputs x here moves left h.rising;
  inputs = all_change (IsInput state.sinks state.inputs_made) (has_index x.index) (arrived_at to) (arriving_input state.sinks state.inputs_made to there) state.inputs h.inputs;
  waiting = still_waits (has_index x.index) (arrived_at to) (λ y. refl) (λ y t. refl) state.inputs state.waiting h.waiting;
  lists = length-set state.posted to.0 (get_or state.posted to.0 [] ++ Attach x.index parcel feed factors ∷ []) ∙ h.lists;
  in_step = set_in_step spec_of state.sinks later state.posted to.0 (get_or state.posted to.0 [] ++ Attach x.index parcel feed factors ∷ []) (subst (λ n. to.0 < n) (sym h.lists) there)
      (λ s e. posted spec_of (sink_at to.0) s state.inputs later (get_or state.posted to.0 []) (Attach x.index parcel feed factors)
      (brought_held to state.inputs x here moves left to.0)
      (λ i. arrived_in (is_coming_to (sink_at to.0)) x.index (arrived_at to) (λ y. refl) (λ y. refl) state.inputs x here (no_more_comes to state.inputs x here moves left to.0) (and_from (nat_eq to.0 to.0) true (eq-eqb to.0 to.0 refl) refl) i
      ∙ ap (λ spec. option_to_list (spec_in (is_coming_to (sink_at to.0)) i state.inputs) ++ cond (nat_eq x.index.0 i) (spec ∷ []) []) (sym same))
      (record {
        absent = ap is_some (get_in (is_settled (sink_at to.0)) state.inputs h.rising x.index.0 ∙ here_in (is_settled (sink_at to.0)) x.index state.inputs x here
            ∙ ap (λ b. cond b (Some (sample_spec x.spec)) None) (not_settled to state.inputs x here moves left to.0));
        room = omega (arith, few_specs (map entry_of (settled_on state.inputs (sink_at to.0))), length-map (settled_on state.inputs (sink_at to.0)) entry_of, room_there to state.inputs x here moves left (h.in_step to.0 s e).few);
      })
      (fits s e)
      (ap (finite.insert (specs_of (settled_on state.inputs (sink_at to.0))) x.index.0) same
      ∙ inserted (is_settled (sink_at to.0)) x.index (arrived_at to) (λ y. refl) state.inputs h.rising x here (eq-eqb to.0 to.0 refl))
      tt
      (omega (arith, brought_bound to state.inputs x here moves left to.0, (h.in_step to.0 s e).few))
      (h.in_step to.0 s e))
      (λ index s apart e. unmoved spec_of (sink_at index) s state.inputs later (get_or state.posted index []) (brought_held to state.inputs x here moves left index)
      (brought_settled to state.inputs x here moves left index apart)
      (brought_coming to state.inputs x here moves left h.rising index apart)
      (omega (arith, brought_bound to state.inputs x here moves left index)) (h.in_step index s e));
}
  where
    later : List Input
    later = change_first (has_index x.index) (arrived_at to) state.inputs
