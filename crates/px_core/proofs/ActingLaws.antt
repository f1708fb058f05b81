-- What a sink hands over that fits acts: an input that has ended goes, and one that moves is settled on its new sink.
use Rattle.std.proofs.Common.{◌≡◌, ℕ, zero, suc, ◌<◌, ◌≤◌, List, [], ◌∷◌, ◌++◌, length, Option, Some, None, Bool, true, false, refl, ap, sym, subst, ◌∙◌, arith, cond, ⊎_elim}
use Rattle.std.specs.Prelude.{◌&&◌, not, nat_eq, get_or, set, slice_get, replicate, IsSome, Contains}
use Rattle.std.specs.List.{find}
use Rattle.std.specs.Option.{option_map}
use Rattle.std.proofs.lemmas.Bool.{cond-true, eqb-true, eq-eqb, ne_eqb, false≢true, cases_eq, cases_lt, and_from}
use Rattle.std.proofs.lemmas.List.{append-nil, append_assoc, length-set, get_or_past, get_or-set_same, get_or-set_other}
use Rattle.px_types.specs.declared.ids.InputId.{InputId}
use Rattle.px_types.specs.declared.ids.SinkId.{SinkId}
use Rattle.px_header.specs.declared.header.SinkSpec.{SinkSpec}
use Rattle.px_model.specs.Frame.{SampleSpec}
use Rattle.px_flat.specs.declared.member.Member.{Member}
use Rattle.px_flat.specs.FlatVolume.{FlatGroup, member_of, detached}
use Rattle.px_flat.proofs.Inputs.{found_in}
use Rattle.px_msg.specs.declared.message.Msg.{Msg}
use Rattle.px_msg.specs.declared.message.Msg.TheVariants.{Attach}
use Rattle.px_msg.specs.declared.notice.Notice.TheVariants.{Detached}
use Rattle.px_msg.specs.View.{sample_spec}
use Rattle.px_outcome.specs.declared.change.Change.TheVariants.{Released}
use Rattle.px_outcome.specs.declared.input.Input.{Input}
use Rattle.px_outcome.specs.declared.input.Standing.{Standing}
use Rattle.px_outcome.specs.declared.input.Standing.TheVariants.{Moving, Leaving}
use Rattle.px_outcome.specs.Outcome.{idle}
use Rattle.px_ctl_play.specs.Arrival.{hands_over, joined_by, settled_with, later, arrival_by}
use Rattle.px_ctl_play.specs.Factors.{own_factors, regrouped}
use Rattle.px_ctl_play.specs.Move.{feed_to}
use Rattle.px_ctl_play.specs.Notified.{has_left, same_spec, gives_up, gone}
use Rattle.px_sinks.specs.Sinks.{target_of}
use Rattle.px_state.specs.declared.delayed.Delayed.{Delayed}
use Rattle.px_state.specs.Delayed.{is_of, delayed_of}
use Rattle.px_state.specs.Out.{waiting_for}
use Rattle.px_state.specs.Outcome.{CoreOutcome}
use Rattle.px_state.specs.State.{State, is_leaving, has_index, input_of, settled_on}
use Rattle.px_state.specs.Change.{change_first, drop_first, arrived_at, posting, arrives, arrives_of, arriving, releasing, releasing_of, changed, committed}
use Rattle.px_core.specs.Consistency.{IsInput, IsConsistent, IsRising, AllAbove, IsFedAt, GoesTo, GoesThere}
use Rattle.px_core.specs.HandedOver.{IsHandedOver, IsGrouped, others_than, settled_at, with_settled, IsBrought}
use Rattle.px_core.specs.Notice.{owner_of, left_of, arrival_between, arrival_at, arrived_with, given_up_by, given_up, notice_answer}
use Rattle.px_core.specs.Step.{notice, answered, stepped}
use Rattle.px_core.proofs.ListLaws.{found_all}
use Rattle.px_core.proofs.HandingLaws.{sink_there}
use Rattle.px_core.proofs.FoundInputs.{only_there}
use Rattle.px_core.proofs.MisfitLaws.{here_by_index, here_on}

-- ---- lists

pub there_at : {A : Type 0} (xs : List A) (k : ℕ) → k < length xs → (x : A) × (slice_get xs k ≡ Some x)
there_at [] k l = absurd (omega (arith, l))
there_at (x ∷ xs) zero l = (x, refl)
there_at (x ∷ xs) (suc k) l = there_at xs k (omega (arith, l))

pub one_of : {A : Type 0} (o : Option A) → IsSome o → (a : A) × (o ≡ Some a)
one_of None e = absurd (false≢true e)
one_of (Some a) e = (a, refl)

module _ (index : InputId) where
  off : (x : Input) → index.0 < x.index.0 → has_index index x ≡ false
  off x l = ne_eqb x.index.0 index.0 (λ same. absurd (omega (arith, l, same)))

  all_others : (xs : List Input) → AllAbove index.0 xs → others_than index xs ≡ xs
  all_others [] a = refl
  all_others (x ∷ xs) a = ap (λ b. cond (not b) (x ∷ others_than index xs) (others_than index xs)) (off x a.0) ∙ ap (λ ys. x ∷ ys) (all_others xs a.1)

  above_as : (x : Input) (xs : List Input) → has_index index x ≡ true → AllAbove x.index.0 xs → AllAbove index.0 xs
  above_as x xs e a = subst (λ n. AllAbove n xs) (eqb-true x.index.0 index.0 e) a

  pub dropped_others : (xs : List Input) → IsRising xs → drop_first (has_index index) xs ≡ others_than index xs
  dropped_others [] r = refl
  dropped_others (x ∷ xs) r = step (dropped_others xs r.1) (has_index index x) refl
    where
      step : drop_first (has_index index) xs ≡ others_than index xs → (b : Bool) → has_index index x ≡ b
          → cond b xs (x ∷ drop_first (has_index index) xs) ≡ cond (not b) (x ∷ others_than index xs) (others_than index xs)
      step more true e = sym (all_others xs (above_as x xs e r.0))
      step more false e = ap (λ ys. x ∷ ys) more

  module _ (to : SinkId) where
    all_same : (xs : List Input) → AllAbove index.0 xs → with_settled to index xs ≡ xs
    all_same [] a = refl
    all_same (x ∷ xs) a = λ k. cond (off x a.0 k) (settled_at to x) x ∷ all_same xs a.1 k

    pub changed_settled : (xs : List Input) → IsRising xs → change_first (has_index index) (arrived_at to) xs ≡ with_settled to index xs
    changed_settled [] r = refl
    changed_settled (x ∷ xs) r = step (changed_settled xs r.1) (has_index index x) refl
      where
        step : change_first (has_index index) (arrived_at to) xs ≡ with_settled to index xs → (b : Bool) → has_index index x ≡ b
            → cond b (arrived_at to x ∷ xs) (x ∷ change_first (has_index index) (arrived_at to) xs) ≡ cond b (settled_at to x) x ∷ with_settled to index xs
        step more true e = ap (λ ys. settled_at to x ∷ ys) (sym (all_same xs (above_as x xs e r.0)))
        step more false e = ap (λ ys. x ∷ ys) more

-- ---- changes that only add messages

pub record Adds {P : Type 0} (before after : State P) : Type 0 where
  pub inputs : after.inputs ≡ before.inputs
  pub more : (k : SinkId) → (ms : List (Msg P)) × (waiting_for after k ≡ waiting_for before k ++ ms)

adds_none : {P : Type 0} (state : State P) → Adds state state
adds_none state = record { inputs = refl; more = λ k. ([], sym (append-nil (waiting_for state k))) }

adds_both : {P : Type 0} (before between after : State P) → Adds before between → Adds between after → Adds before after
adds_both before between after first second = record {
  inputs = second.inputs ∙ first.inputs;
  more = λ k.
      let a = first.more k in
      let b = second.more k in
      (a.0 ++ b.0, b.1 ∙ ap (λ ms. ms ++ b.0) a.1 ∙ append_assoc (waiting_for before k) a.0 b.0);
}

module _ {P : Type 0} where
  posted_at : (lists : List (List (Msg P))) (sink : ℕ) (m : Msg P) (k : ℕ) → (ms : List (Msg P)) × (get_or (set lists sink (get_or lists sink [] ++ m ∷ [])) k [] ≡ get_or lists k [] ++ ms)
  posted_at lists sink m k =
      ⊎_elim
      (λ (same : k ≡ sink).
      ⊎_elim
      (λ (l : sink < length lists). (
        m ∷ [],
        subst (λ n. get_or (set lists sink longer) n [] ≡ get_or lists n [] ++ m ∷ []) (sym same) (get_or-set_same lists sink longer [] l),
      ))
      (λ (l : length lists ≤ sink). (
        [],
        subst (λ n. get_or (set lists sink longer) n [] ≡ get_or lists n [] ++ []) (sym same)
            (get_or_past (set lists sink longer) sink [] (omega (arith, l, length-set lists sink longer)) ∙ sym (append-nil (get_or lists sink []) ∙ get_or_past lists sink [] l)),
      ))
      (cases_lt sink (length lists)))
      (λ (apart : k ≡ sink → ⊥). ([], get_or-set_other lists sink k longer [] apart ∙ sym (append-nil (get_or lists k []))))
      (cases_eq k sink)
    where
      longer : List (Msg P)
      longer = get_or lists sink [] ++ m ∷ []

  posting_adds : (sink : ℕ) (m : Msg P) (state : State P) → Adds state (posting sink m state)
  posting_adds sink m state = record { inputs = refl; more = λ k. posted_at state.posted sink m k.0 }

  releasing_adds : (x : Input) (o : Option (Delayed P)) (state : State P) → Adds state (releasing x o state)
  releasing_adds x None state = adds_none state
  releasing_adds x (Some d) state = record { inputs = refl; more = λ k. posted_at state.posted x.sink.0 d.message k.0 }

  released_adds : (o : Option Input) (state : State P) → Adds state (releasing_of o state)
  released_adds None state = adds_none state
  released_adds (Some x) state = releasing_adds x (find (is_of x.index) state.delayed) state

  all_released_add : (n : ℕ) (index : InputId) (state : State P) → Adds state (committed state (replicate n (Released index)))
  all_released_add zero index state = adds_none state
  all_released_add (suc n) index state =
      adds_both state (changed state (Released index)) (committed state (replicate (suc n) (Released index)))
      (released_adds (input_of state.inputs index) state)
      (all_released_add n index (changed state (Released index)))

  regrouped_adds : (sink : SinkId) (group : FlatGroup) (inputs : List Input) (state : State P) → Adds state (changed state (regrouped sink group inputs))
  regrouped_adds sink group inputs state = record { inputs = refl; more = λ k. posted_at state.posted sink.0 _ k.0 }

-- ---- in a consistent state

module _ {P : Type 0} (spec_of : P → SampleSpec) (state : State P) (h : IsConsistent spec_of state) where
  pub group_there : (k : ℕ) → k < length state.sinks → (group : FlatGroup) × (slice_get state.groups k ≡ Some group)
  group_there k l = there_at state.groups k (subst (λ n. k < n) (sym h.grouped.count) l)

  module _ (x : Input) (held : Contains state.inputs x) where
    pub here : input_of state.inputs x.index ≡ Some x
    here = here_by_index state.inputs h.steady.rising x held

    is : IsInput state.sinks state.inputs_made x
    is = found_all (IsInput state.sinks state.inputs_made) (has_index x.index) state.inputs x h.steady.inputs here

    pub is_grouped : IsGrouped state x
    is_grouped =
        let own = sink_there state.sinks x.sink.0 is.sink_there in
        let it = group_there x.sink.0 is.sink_there in
        let group = h.grouped.each x.sink.0 own.0 it.0 own.1 it.1 refl in
        record {
          group = it.0;
          owned = it.1;
          member = found_in it.0.members x.index
              (subst (λ ns. 0 < length ns)
              (sym (group.members x.index ∙ only_there state.inputs h.steady.rising x here x.sink ∙ cond-true (nat_eq x.sink.0 x.sink.0) (x.spec.channels ∷ []) [] (eq-eqb x.sink.0 x.sink.0 refl)))
              (omega arith));
        }

  -- ---- a stream is handed over

  same_as : (a b : SampleSpec) → a ≡ b → same_spec a b ≡ true
  same_as a b e = subst (λ spec. same_spec a spec ≡ true) e
      (and_from (nat_eq a.format a.format && nat_eq a.channels a.channels) (nat_eq a.rate a.rate)
      (and_from (nat_eq a.format a.format) (nat_eq a.channels a.channels) (eq-eqb a.format a.format refl) (eq-eqb a.channels a.channels refl))
      (eq-eqb a.rate a.rate refl))

  module _ (sink : SinkId) (x : Input) (parcel : P) (it : IsHandedOver spec_of state sink x parcel) where
    fits : hands_over (spec_of parcel) x ≡ true
    fits = and_from (has_left x.way) (same_spec (spec_of parcel) (sample_spec x.spec)) (ap has_left it.detached) (same_as (spec_of parcel) (sample_spec x.spec) it.spec)

    abbrev after : State P
    after = stepped spec_of state (notice sink (Detached x.index parcel))

    answer_is : (standing : Standing) → x.standing ≡ standing → notice_answer spec_of state sink (Detached x.index parcel) ≡ given_up_by spec_of state sink x parcel standing
    answer_is standing e =
        ap (λ o. given_up spec_of state sink o parcel) (here_on state h.steady.rising sink (Detached x.index parcel) x (record { held = it.held; numbered = refl; on = it.on }))
        ∙ ap (given_up_by spec_of state sink x parcel) e

    -- of an input that has ended
    pub ended_goes : x.standing ≡ Leaving → after.inputs ≡ others_than x.index state.inputs
    ended_goes left =
        let own = is_grouped x it.held in
        ap (λ (outcome : CoreOutcome P). (answered state outcome).inputs) (
        answer_is Leaving left
        ∙ cond-true (gives_up (spec_of parcel) x) (gone x (slice_get state.groups sink.0) state.inputs) idle
        (and_from (is_leaving x.standing && has_left x.way) (same_spec (spec_of parcel) (sample_spec x.spec))
        (and_from (is_leaving x.standing) (has_left x.way) (ap is_leaving left) (ap has_left it.detached))
        (same_as (spec_of parcel) (sample_spec x.spec) it.spec))
        ∙ ap (λ o. gone x o state.inputs) (ap (slice_get state.groups) (sym it.on) ∙ own.owned)
        )
        ∙ dropped_others x.index state.inputs h.steady.rising

    -- of one that moves
    module _ (to : SinkId) (moves : x.standing ≡ Moving to) where
      goes : GoesTo state.sinks x.sink (IsFedAt x) to
      goes = subst (λ standing. GoesThere state.sinks x.sink (IsFedAt x) standing) moves (is x it.held).goes_there

      abbrev waited : ℕ
      waited = length (delayed_of state.delayed x.index)

      -- the state once its stream is posted to the new sink
      pub record Arrived : Type 0 where
        pub from : FlatGroup
        pub joined : FlatGroup
        pub feed : List ℕ
        pub factors : List ℕ
        pub is : after ≡ committed (arriving to x (Attach x.index parcel feed factors) state) (later x from to joined state.inputs waited)

      pub arrived : Arrived
      arrived =
          let s = sink_there state.sinks to.0 goes.there in
          let own = is_grouped x it.held in
          let m = one_of (member_of own.group.members x.index) own.member in
          let group = group_there to.0 goes.there in
          let feed = one_of (feed_to x s.0.map) (goes.fed s.0 s.1) in
          by s.0 s.1 own.group own.owned m.0 m.1 group.0 group.1 feed.0 feed.1
        where
          by : (s : SinkSpec) → slice_get state.sinks to.0 ≡ Some s → (from : FlatGroup) → slice_get state.groups x.sink.0 ≡ Some from → (m : Member) → member_of from.members x.index ≡ Some m
              → (group : FlatGroup) → slice_get state.groups to.0 ≡ Some group → (feed : List ℕ) → feed_to x s.map ≡ Some feed → Arrived
          by s there from owned m own group joins feed fed = record {
            from = detached x.index from;
            joined = joined_by x.index m feed group;
            feed = feed;
            factors = own_factors (joined_by x.index m feed group) x.index;
            is =
                ap (λ (outcome : CoreOutcome P). answered state outcome) (
                answer_is (Moving to) moves
                ∙ cond-true (hands_over (spec_of parcel) x) (arrived_with x.index parcel (arrival_at state to x)) (left_of spec_of state sink (Some x) parcel) fits
                ∙ ap (arrived_with x.index parcel) (
                (λ k. arrival_between state x (option_map (target_of to) (there k)) (owned k) (joins k))
                ∙ (λ k. arrival_by x (own k) (fed k) from group (target_of to s) (owner_of state.connections (Some x)) state.inputs waited)
                )
                )
                ∙ ap (λ (start : State P). committed start (later x (detached x.index from) to (joined_by x.index m feed group) state.inputs waited)) (
                ap (λ (o : Option Input). arrives_of o message state) (here x it.held)
                ∙ ap (λ (standing : Standing). arrives standing x message state) moves
                );
          }
            where
              message : Msg P
              message = Attach x.index parcel feed (own_factors (joined_by x.index m feed group) x.index)

      -- the changes after that only add messages
      rest_adds : (a : Arrived) → Adds (arriving to x (Attach x.index parcel a.feed a.factors) state) after
      rest_adds a =
          let first : State P = arriving to x (Attach x.index parcel a.feed a.factors) state in
          let second : State P = changed first (regrouped x.sink a.from (settled_on state.inputs x.sink)) in
          let third : State P = changed second (regrouped to a.joined (settled_with state.inputs to x.index)) in
          subst (Adds first) (sym a.is) (
          adds_both first second (committed third (replicate waited (Released x.index))) (regrouped_adds x.sink a.from (settled_on state.inputs x.sink) first)
          (adds_both second third (committed third (replicate waited (Released x.index))) (regrouped_adds to a.joined (settled_with state.inputs to x.index) second)
          (all_released_add waited x.index third))
          )

      pub moved_settles : after.inputs ≡ with_settled to x.index state.inputs
      moved_settles = (rest_adds arrived).inputs ∙ changed_settled x.index to state.inputs h.steady.rising

      pub moved_brought : IsBrought to x.index parcel state after
      moved_brought =
          let a : Arrived = arrived in
          let added = (rest_adds a).more to in
          record {
            feed = a.feed;
            factors = a.factors;
            more = added.0;
            posted = added.1
                ∙ ap (λ ms. ms ++ added.0) (get_or-set_same state.posted to.0 (waiting_for state to ++ Attach x.index parcel a.feed a.factors ∷ []) [] (subst (λ n. to.0 < n) (sym h.steady.lists) goes.there))
                ∙ append_assoc (waiting_for state to) (Attach x.index parcel a.feed a.factors ∷ []) added.0;
          }
