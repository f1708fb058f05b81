-- An input is on the sink that it moves to: the outcome keeps what the state keeps.
use Rattle.std.proofs.Common.{◌≡◌, ◌⊎◌, inl, inr, ℕ, zero, suc, ◌<◌, ◌≤◌, List, [], ◌∷◌, ◌++◌, length, Option, Some, None, Bool, true, false, refl, ap, sym, subst, ◌∙◌, arith, cond}
use Rattle.std.specs.Prelude.{◌&&◌, filter, nat_eq, not, replicate, slice_get, All, MatchOption, IfSome}
use Rattle.std.specs.List.{AllByRecursion, find}
use Rattle.std.specs.Option.{option_map}
use Rattle.std.proofs.lemmas.Bool.{cond-true, cond-false, eqb-true, eq-eqb, ne_eqb, and_left, and_parts}
use Rattle.std.proofs.lemmas.List.{append-nil}
use Rattle.std.proofs.lemmas.Option.{same_Some}
use Rattle.px_types.specs.declared.ids.InputId.{InputId}
use Rattle.px_types.specs.declared.ids.SinkId.{SinkId}
use Rattle.px_header.specs.declared.header.SinkSpec.{SinkSpec}
use Rattle.px_header.specs.HeaderRules.{IsSink}
use Rattle.px_model.specs.Frame.{SampleSpec}
use Rattle.px_model.specs.Orderly.{IsParcel}
use Rattle.px_chmap.specs.Plan.{FeedsAll}
use Rattle.px_chmap.proofs.PlanLemmas.{plan_fits}
use Rattle.px_flat.specs.declared.member.How.TheVariants.{Kept}
use Rattle.px_flat.specs.declared.member.Member.{Member}
use Rattle.px_flat.specs.Member.{channels_of}
use Rattle.px_flat.specs.FlatVolume.{FlatGroup, member_of, detached}
use Rattle.px_flat.proofs.Inputs.{rest_of, attached_in, attached_channels, attached_there, detached_in, feeds_count}
use Rattle.px_msg.specs.declared.message.Msg.{Msg}
use Rattle.px_msg.specs.declared.message.Msg.TheVariants.{Attach}
use Rattle.px_msg.specs.View.{sample_spec}
use Rattle.px_outcome.specs.declared.change.Change.TheVariants.{Arrives, Released}
use Rattle.px_outcome.specs.declared.input.Connection.{Connection}
use Rattle.px_outcome.specs.declared.input.Input.{Input}
use Rattle.px_outcome.specs.declared.input.Standing.{Standing}
use Rattle.px_outcome.specs.declared.input.Standing.TheVariants.{Settled, Moving}
use Rattle.px_outcome.specs.declared.input.Way.TheVariants.{Left}
use Rattle.px_ctl_play.specs.Arrival.{joined_by, is_settled_with, settled_with, later, arrival_by}
use Rattle.px_ctl_play.specs.Factors.{own_factors, regrouped}
use Rattle.px_ctl_play.specs.Move.{feed_to}
use Rattle.px_ctl_play.specs.Notified.{same_spec}
use Rattle.px_sinks.specs.Sinks.{target_of}
use Rattle.px_state.specs.declared.delayed.Delayed.{Delayed}
use Rattle.px_state.specs.Delayed.{is_of, delayed_of, Suits, Waits, IsDelayed}
use Rattle.px_state.specs.State.{State, has_index, input_of, is_settled, settled_on}
use Rattle.px_state.specs.Change.{Change, change_first, drop_first, arrived_at, posted_to, arrives, arrives_of, arriving, releasing, releasing_of, changed, committed}
use Rattle.px_core.specs.Grouped.{channels_there, IsGroupOf, paid}
use Rattle.px_core.specs.Consistency.{IsFedAt, GoesTo, GoesThere, IsInput, IsConsistent, IsRising}
use Rattle.px_core.specs.Lawful.{IsReleased, AreReleased, AreLawfulOwing}
use Rattle.px_core.specs.Notice.{is_on, owner_of, arrival_between, arrival_at, arrived_with}
use Rattle.px_core.specs.Parcels.{Brought, moved_stream, carried_by}
use Rattle.px_state.specs.Outcome.{CoreOutcome}
use Rattle.px_core.proofs.ListLaws.{all_weaken, all_drop, found_all, found_test, same_passed}
use Rattle.px_core.proofs.EntryLaws.{rising_change}
use Rattle.px_core.proofs.MoveLaws.{arriving_keeps, brought_held}
use Rattle.px_core.proofs.GroupLaws.{Grouped, arrived_grouped}
use Rattle.px_core.proofs.FoundInputs.{found_changed, only_there}
use Rattle.px_core.proofs.VerbLaws.{Follows, none_goes}
use Rattle.px_core.proofs.StillLaws.{Still, suits_as, others_still}
use Rattle.px_core.proofs.AnswerLaws.{IsLawful, rising_filter, regroups}
use Rattle.px_core.proofs.CreateLaws.{sink_rules, own_fits}

-- ---- an outcome whose first change is an arrival

pub record IsArrival {P : Type 0} (spec_of : P → SampleSpec) (state : State P) (outcome : CoreOutcome P) (given : List (Brought P)) : Type 0 where
  pub index : InputId
  pub message : Msg P
  pub behind : List (Change P)
  pub changes : outcome.changes ≡ Arrives index message ∷ behind
  -- it brings the stream that was given up, of the same input and in the same parcel
  pub carried : given ≡ carried_by message
  pub to : SinkId
  pub after : State P
  pub arrives : changed state (Arrives index message) ≡ after
  pub follows : Follows spec_of state after
  pub connections : after.connections ≡ state.connections
  pub made : after.inputs_made ≡ state.inputs_made
  pub posted : after.posted ≡ posted_to to.0 message state.posted
  pub owed : List SinkId
  pub grouped : Grouped owed after
  pub lawful : AreLawfulOwing owed after behind
  pub still : Still (committed after behind)

pub arrival_committed : {P : Type 0} (spec_of : P → SampleSpec) (state : State P) (outcome : CoreOutcome P) (given : List (Brought P)) (a : IsArrival spec_of state outcome given) → committed state outcome.changes ≡ committed a.after a.behind
arrival_committed {P} spec_of state outcome given a = ap (committed state) a.changes ∙ ap (λ (s : State P). committed s a.behind) a.arrives

-- an outcome is sound where it is lawful, or an arrival
abbrev pub IsSound : {P : Type 0} → (P → SampleSpec) → State P → CoreOutcome P → List (Brought P) → Type 0
IsSound spec_of state outcome given = IsLawful state outcome ⊎ IsArrival spec_of state outcome given

-- ---- inputs by their index, where one comes to another sink

module _ (to : SinkId) (xs : List Input) (rising : IsRising xs) (x : Input) (here : input_of xs x.index ≡ Some x) (apart : to.0 ≡ x.sink.0 → ⊥) where
  abbrev brought : List Input
  brought = change_first (has_index x.index) (arrived_at to) xs

  brought_rises : IsRising brought
  brought_rises = rising_change (has_index x.index) (arrived_at to) (λ y. refl) xs rising

  pub brought_here : input_of brought x.index ≡ Some (arrived_at to x)
  brought_here = found_changed (has_index x.index) (arrived_at to) (λ y. refl) xs x here

  others_there : (sink : SinkId) (i : InputId) → nat_eq x.index.0 i.0 ≡ false → channels_there brought sink i ≡ channels_there xs sink i
  others_there sink i e =
      same_passed (is_on sink i) (has_index x.index) (arrived_at to) (λ y. (Input.spec y).channels) xs
      (λ y found.
      let off : nat_eq y.index.0 i.0 ≡ false = ap (λ n. nat_eq n i.0) (eqb-true y.index.0 x.index.0 (found_test (has_index x.index) xs y found)) ∙ e in
      and_left (nat_eq y.index.0 i.0) (nat_eq to.0 sink.0) off ∙ sym (and_left (nat_eq y.index.0 i.0) (nat_eq y.sink.0 sink.0) off))
      (λ y. refl)

  there_now : (sink : SinkId) → channels_there brought sink x.index ≡ cond (nat_eq to.0 sink.0) (x.spec.channels ∷ []) []
  there_now sink = only_there brought brought_rises (arrived_at to x) brought_here sink

  there_before : (sink : SinkId) → channels_there xs sink x.index ≡ cond (nat_eq x.sink.0 sink.0) (x.spec.channels ∷ []) []
  there_before sink = only_there xs rising x here sink

  own_index : (i : InputId) → nat_eq x.index.0 i.0 ≡ true → x.index ≡ i
  own_index i e = λ k. record { 0 = eqb-true x.index.0 i.0 e k }

  -- the sink that it leaves
  pub left_there : (i : InputId) → channels_there brought x.sink i ≡ cond (nat_eq x.index.0 i.0) (rest_of (channels_there xs x.sink i)) (channels_there xs x.sink i)
  left_there i = by (nat_eq x.index.0 i.0) refl
    where
      own : channels_there brought x.sink x.index ≡ rest_of (channels_there xs x.sink x.index)
      own =
          there_now x.sink
          ∙ cond-false (nat_eq to.0 x.sink.0) (x.spec.channels ∷ []) [] (ne_eqb to.0 x.sink.0 apart)
          ∙ sym (ap (λ (ns : List ℕ). rest_of ns) (there_before x.sink ∙ cond-true (nat_eq x.sink.0 x.sink.0) (x.spec.channels ∷ []) [] (eq-eqb x.sink.0 x.sink.0 refl)))

      by : (b : Bool) → nat_eq x.index.0 i.0 ≡ b → channels_there brought x.sink i ≡ cond b (rest_of (channels_there xs x.sink i)) (channels_there xs x.sink i)
      by true e = subst (λ (j : InputId). channels_there brought x.sink j ≡ rest_of (channels_there xs x.sink j)) (own_index i e) own
      by false e = others_there x.sink i e

  -- the sink that it comes to
  pub come_there : (i : InputId) → channels_there brought to i ≡ channels_there xs to i ++ cond (nat_eq x.index.0 i.0) (x.spec.channels ∷ []) []
  come_there i = by (nat_eq x.index.0 i.0) refl
    where
      own : channels_there brought to x.index ≡ channels_there xs to x.index ++ x.spec.channels ∷ []
      own =
          there_now to
          ∙ cond-true (nat_eq to.0 to.0) (x.spec.channels ∷ []) [] (eq-eqb to.0 to.0 refl)
          ∙ sym (ap (λ (ns : List ℕ). ns ++ x.spec.channels ∷ []) (there_before to ∙ cond-false (nat_eq x.sink.0 to.0) (x.spec.channels ∷ []) [] (ne_eqb x.sink.0 to.0 (λ (same : x.sink.0 ≡ to.0). apart (sym same)))))

      by : (b : Bool) → nat_eq x.index.0 i.0 ≡ b → channels_there brought to i ≡ channels_there xs to i ++ cond b (x.spec.channels ∷ []) []
      by true e = subst (λ (j : InputId). channels_there brought to j ≡ channels_there xs to j ++ x.spec.channels ∷ []) (own_index i e) own
      by false e = others_there to i e ∙ sym (append-nil (channels_there xs to i))

-- ---- what waited of it

abbrev drops : {P : Type 0} → ℕ → InputId → List (Delayed P) → List (Delayed P)
drops zero index ds = ds
drops (suc n) index ds = drops n index (drop_first (is_of index) ds)

drops_all : {P : Type 0} (Q : Delayed P → Type 0) (n : ℕ) (index : InputId) (ds : List (Delayed P)) → AllByRecursion Q ds → AllByRecursion Q (drops n index ds)
drops_all Q zero index ds h = h
drops_all Q (suc n) index ds h = drops_all Q n index (drop_first (is_of index) ds) (all_drop Q (is_of index) ds h)

none_pass : {A : Type 0} (q : A → Bool) (xs : List A) → length (filter q xs) ≡ 0 → AllByRecursion (λ x. q x ≡ false) xs
none_pass q [] e = tt
none_pass {A} q (x ∷ xs) e = step (none_pass q xs) (q x) refl e
  where
    step : (length (filter q xs) ≡ 0 → AllByRecursion (λ x. q x ≡ false) xs) → (b : Bool) → q x ≡ b → length (cond b (x ∷ filter q xs) (filter q xs)) ≡ 0 → (q x ≡ false) × AllByRecursion (λ x. q x ≡ false) xs
    step more true f g = absurd (omega (arith, g))
    step more false f g = (f, more g)

one_less : {A : Type 0} (q : A → Bool) (n : ℕ) (xs : List A) → length (filter q xs) ≡ suc n → length (filter q (drop_first q xs)) ≡ n
one_less q n [] e = absurd (omega (arith, e))
one_less {A} q n (x ∷ xs) e = step (one_less q n xs) (q x) refl e
  where
    step : (length (filter q xs) ≡ suc n → length (filter q (drop_first q xs)) ≡ n) → (b : Bool) → q x ≡ b → length (cond b (x ∷ filter q xs) (filter q xs)) ≡ suc n → length (filter q (cond b xs (x ∷ drop_first q xs))) ≡ n
    step more true f g = omega (arith, g)
    step more false f g = ap (λ b. length (cond b (x ∷ filter q (drop_first q xs)) (filter q (drop_first q xs)))) f ∙ more g

none_left : {P : Type 0} (n : ℕ) (index : InputId) (ds : List (Delayed P)) → length (delayed_of ds index) ≡ n → AllByRecursion (λ d. is_of index d ≡ false) (drops n index ds)
none_left zero index ds e = none_pass (is_of index) ds e
none_left (suc n) index ds e = none_left n index (drop_first (is_of index) ds) (one_less (is_of index) n ds e)

all_both : {A : Type 0} (Q R S : A → Type 0) → ((x : A) → Q x → R x → S x) → (xs : List A) → AllByRecursion Q xs → AllByRecursion R xs → AllByRecursion S xs
all_both Q R S k [] h g = tt
all_both Q R S k (x ∷ xs) h g = (k x h.0 g.0, all_both Q R S k xs h.1 g.1)

-- ---- it is released, message after message

module _ {P : Type 0} (x : Input) where
  abbrev IsHere : State P → Type 0
  IsHere state = input_of state.inputs x.index ≡ Some x

  -- a message of it suits it
  abbrev FitsIt : Delayed P → Type 0
  FitsIt d = is_of x.index d ≡ true → Suits x d.message

  one_released : (o : Option (Delayed P)) (state : State P) → find (is_of x.index) state.delayed ≡ o → ((releasing x o state).inputs ≡ state.inputs) × ((releasing x o state).delayed ≡ drop_first (is_of x.index) state.delayed)
  one_released None state e = (refl, sym (none_goes (is_of x.index) state.delayed e))
  one_released (Some d) state e = (refl, refl)

  released_once : (state : State P) → IsHere state → ((changed state (Released x.index)).inputs ≡ state.inputs) × ((changed state (Released x.index)).delayed ≡ drop_first (is_of x.index) state.delayed)
  released_once state here =
      subst (λ (o : Option Input). ((releasing_of o state).inputs ≡ state.inputs) × ((releasing_of o state).delayed ≡ drop_first (is_of x.index) state.delayed)) (sym here)
      (one_released (find (is_of x.index) state.delayed) state refl)

  abbrev still_here : (state : State P) → IsHere state → IsHere (changed state (Released x.index))
  still_here state here = ap (λ (inputs : List Input). input_of inputs x.index) (released_once state here).0 ∙ here

  releases_lawful : (n : ℕ) (state : State P) → IsHere state → x.standing ≡ Settled → AllByRecursion FitsIt state.delayed → AreLawfulOwing [] state (replicate n (Released x.index))
  releases_lawful zero state here settled fit = tt
  releases_lawful (suc n) state here settled fit = (
    subst (λ o. IfSome o (AreReleased state.delayed)) (sym here) (first (find (is_of x.index) state.delayed) refl),
    releases_lawful n (changed state (Released x.index)) (still_here state here) settled
        (subst (AllByRecursion FitsIt) (sym (released_once state here).1) (all_drop FitsIt (is_of x.index) state.delayed fit)),
  )
    where
      first : (o : Option (Delayed P)) → find (is_of x.index) state.delayed ≡ o → IfSome o (IsReleased x)
      first None e = tt
      first (Some d) e = record { standing = settled; suits = found_all FitsIt (is_of x.index) state.delayed d fit e (found_test (is_of x.index) state.delayed d e) }

  all_released : (n : ℕ) (state : State P) → IsHere state → ((committed state (replicate n (Released x.index))).inputs ≡ state.inputs) × ((committed state (replicate n (Released x.index))).delayed ≡ drops n x.index state.delayed)
  all_released zero state here = (refl, refl)
  all_released (suc n) state here =
      let one = released_once state here in
      let more = all_released n (changed state (Released x.index)) (still_here state here) in
      (more.0 ∙ one.0, more.1 ∙ ap (λ (ds : List (Delayed P)). drops n x.index ds) one.1)

-- ---- the outcome

none_owed : (a b : SinkId) → paid b (paid a (a ∷ b ∷ [])) ≡ []
none_owed a b = ap (λ c. paid b (cond (not c) (a ∷ paid a (b ∷ [])) (paid a (b ∷ [])))) (eq-eqb a.0 a.0 refl) ∙ by (nat_eq b.0 a.0)
  where
    by : (c : Bool) → paid b (cond (not c) (b ∷ []) []) ≡ []
    by true = refl
    by false = ap (λ c. cond (not c) (b ∷ []) []) (eq-eqb b.0 b.0 refl)

pub spec_is : (a b : SampleSpec) → same_spec a b ≡ true → a ≡ b
spec_is a b e =
    let first = and_parts (nat_eq a.format b.format && nat_eq a.channels b.channels) (nat_eq a.rate b.rate) e in
    let second = and_parts (nat_eq a.format b.format) (nat_eq a.channels b.channels) first.0 in
    λ i. record { format = eqb-true a.format b.format second.0 i; channels = eqb-true a.channels b.channels second.1 i; rate = eqb-true a.rate b.rate first.1 i }

module _ {P : Type 0} (spec_of : P → SampleSpec) (state : State P) (h : IsConsistent spec_of state) (x : Input) (to : SinkId) (parcel : P)
    (here : input_of state.inputs x.index ≡ Some x) (moves : x.standing ≡ Moving to) (left : x.way ≡ Left) (same : spec_of parcel ≡ sample_spec x.spec) where
  is : IsInput state.sinks state.inputs_made x
  is = found_all (IsInput state.sinks state.inputs_made) (has_index x.index) state.inputs x h.steady.inputs here

  goes : GoesTo state.sinks x.sink (IsFedAt x) to
  goes = subst (λ standing. GoesThere state.sinks x.sink (IsFedAt x) standing) moves is.goes_there

  module _ (s : SinkSpec) (there : slice_get state.sinks to.0 ≡ Some s) (from group : FlatGroup) (leaves : slice_get state.groups x.sink.0 ≡ Some from) (joins : slice_get state.groups to.0 ≡ Some group)
      (m : Member) (feed : List ℕ) (fed : feed_to x s.map ≡ Some feed) where
    abbrev joined : FlatGroup
    joined = joined_by x.index m feed group

    abbrev message : Msg P
    message = Attach x.index parcel feed (own_factors joined x.index)

    abbrev after : State P
    after = arriving to x message state

    rules : (before : List SinkSpec) × IsSink before s
    rules = sink_rules [] state.sinks to.0 s h.steady.sinks there

    feeds : FeedsAll (length x.map) (length s.map) feed
    feeds = plan_fits x.map s.map x.no_remap x.no_remix (Some feed) rules.1.map (sym fed)

    some : 1 ≤ length x.map
    some = omega (arith, is.map, is.playable.some_channels)

    count : channels_of feed ≡ x.spec.channels
    count = feeds_count (length x.map) (length s.map) feed some feeds ∙ is.map

    new_is : IsGroupOf to s after.inputs joined
    new_is =
        let was = h.grouped.each to.0 s group there joins refl in
        record {
          channels = attached_channels x.index m.volume (Kept m.ratios) m.muted feed group ∙ was.channels;
          members = λ i. attached_in x.index m.volume (Kept m.ratios) m.muted feed group i
              ∙ (λ k. was.members i k ++ cond (nat_eq x.index.0 i.0) (count k ∷ []) [])
              ∙ sym (come_there to state.inputs h.steady.rising x here goes.apart i);
        }

    old_is : (t : SinkSpec) → slice_get state.sinks x.sink.0 ≡ Some t → IsGroupOf x.sink t after.inputs (detached x.index from)
    old_is t e =
        let was = h.grouped.each x.sink.0 t from e leaves refl in
        record {
          channels = was.channels;
          members = λ i. detached_in x.index from i
              ∙ (λ k. cond (nat_eq x.index.0 i.0) (rest_of (was.members i k)) (was.members i k))
              ∙ sym (left_there to state.inputs h.steady.rising x here goes.apart i);
        }

    fits : (t : SinkSpec) → slice_get state.sinks to.0 ≡ Some t → IsParcel (sample_spec t.spec) (spec_of parcel) feed (own_factors joined x.index)
    fits t e =
        subst (λ (z : SinkSpec). IsParcel (sample_spec z.spec) (spec_of parcel) feed (own_factors joined x.index)) (same_Some s t (sym there ∙ e))
        (subst (λ (spec : SampleSpec). IsParcel (sample_spec s.spec) spec feed (own_factors joined x.index)) (sym same)
        (record {
          playable = is.playable;
          feed_fits = record { places = feeds.places ∙ rules.1.map_size; channels = subst (λ n. All (λ c. c < n) feed) is.map feeds.known };
          factors_fit = own_fits joined x.index (attached_there x.index m.volume (Kept m.ratios) m.muted feed group) ∙ new_is.channels;
        }))

    first : changed state (Arrives x.index message) ≡ after
    first = ap (λ (o : Option Input). arrives_of o message state) here ∙ ap (λ (standing : Standing). arrives standing x message state) moves

    -- the changes behind it, one after the other
    abbrev waited : ℕ
    waited = length (delayed_of state.delayed x.index)

    abbrev leaving_change : Change P
    leaving_change = regrouped x.sink (detached x.index from) (settled_on state.inputs x.sink)

    abbrev joining_change : Change P
    joining_change = regrouped to joined (settled_with state.inputs to x.index)

    abbrev second : State P
    second = changed after leaving_change

    abbrev third : State P
    third = changed second joining_change

    fit_it : AllByRecursion (FitsIt {P = P} (arrived_at to x)) state.delayed
    fit_it = all_weaken (IsDelayed state.inputs) (FitsIt (arrived_at to x)) (λ d waits own. suits_as x (arrived_at to x) refl refl d.message (subst (λ o. MatchOption o ⊥ (λ y. Waits y d.message)) (found d own) waits).1) state.delayed h.still
      where
        found : (d : Delayed P) → is_of x.index d ≡ true → input_of state.inputs d.input ≡ Some x
        found d own = ap (λ n. input_of state.inputs (record { 0 = n })) (eqb-true d.input.0 x.index.0 own) ∙ here

    now : input_of third.inputs x.index ≡ Some (arrived_at to x)
    now = brought_here to state.inputs h.steady.rising x here goes.apart

    behind_lawful : AreLawfulOwing (x.sink ∷ to ∷ []) after (leaving_change ∷ joining_change ∷ replicate waited (Released x.index))
    behind_lawful = (
      regroups after x.sink (detached x.index from) is.sink_there old_is (settled_on state.inputs x.sink) (rising_filter (is_settled x.sink) state.inputs h.steady.rising),
      (
        regroups second to joined goes.there (λ t e. subst (λ (z : SinkSpec). IsGroupOf to z after.inputs joined) (same_Some s t (sym there ∙ e)) new_is)
            (settled_with state.inputs to x.index) (rising_filter (is_settled_with to x.index) state.inputs h.steady.rising),
        subst (λ (owed : List SinkId). AreLawfulOwing owed third (replicate waited (Released x.index))) (sym (none_owed x.sink to))
            (releases_lawful (arrived_at to x) waited third now refl fit_it),
      ),
    )

    in_the_end : Still (committed third (replicate waited (Released x.index)))
    in_the_end =
        let done = all_released {P = P} (arrived_at to x) waited third now in
        subst (λ (inputs : List Input). AllByRecursion (IsDelayed inputs) (committed third (replicate waited (Released x.index))).delayed) (sym done.0)
        (subst (AllByRecursion (IsDelayed third.inputs)) (sym done.1)
        (all_both (IsDelayed state.inputs) (λ d. is_of x.index d ≡ false) (IsDelayed third.inputs) (λ d waits other. others_still state.inputs x here (arrived_at to) (λ y. refl) d other waits)
        (drops waited x.index state.delayed)
        (drops_all (IsDelayed state.inputs) waited x.index state.delayed h.still)
        (none_left waited x.index state.delayed refl)))

    arrival_is : (outcome : CoreOutcome P) → outcome.changes ≡ Arrives x.index message ∷ later x (detached x.index from) to joined state.inputs waited → IsArrival spec_of state outcome (moved_stream x.index.0 parcel ∷ [])
    arrival_is outcome e = record {
      index = x.index;
      message = message;
      behind = later x (detached x.index from) to joined state.inputs waited;
      changes = e;
      carried = refl;
      to = to;
      after = after;
      arrives = first;
      follows = record {
        keeps = arriving_keeps spec_of state x to parcel feed (own_factors joined x.index) h.steady here moves left goes.there same fits;
        held = brought_held to state.inputs x here moves left;
      };
      connections = refl;
      made = refl;
      posted = refl;
      owed = x.sink ∷ to ∷ [];
      grouped = arrived_grouped [] state.sinks state.inputs state.groups x to here h.grouped;
      lawful = behind_lawful;
      still = in_the_end;
    }

  pub arrival_sound : IsSound spec_of state (arrived_with x.index parcel (arrival_at state to x)) (moved_stream x.index.0 parcel ∷ [])
  arrival_sound = by (slice_get state.sinks to.0) refl (slice_get state.groups x.sink.0) refl (slice_get state.groups to.0) refl
    where
      owner : Option Connection
      owner = owner_of state.connections (Some x)

      inner : (s : SinkSpec) → slice_get state.sinks to.0 ≡ Some s → (from : FlatGroup) → slice_get state.groups x.sink.0 ≡ Some from → (group : FlatGroup) → slice_get state.groups to.0 ≡ Some group
          → (o : Option Member) → (r : Option (List ℕ)) → feed_to x s.map ≡ r
          → IsSound spec_of state (arrived_with x.index parcel (arrival_by x o r from group (target_of to s) owner state.inputs (length (delayed_of state.delayed x.index)))) (moved_stream x.index.0 parcel ∷ [])
      inner s there from leaves group joins None r fed = inl tt
      inner s there from leaves group joins (Some m) None fed = inl tt
      inner s there from leaves group joins (Some m) (Some feed) fed = inr (arrival_is s there from group leaves joins m feed fed _ refl)

      by : (o : Option SinkSpec) → slice_get state.sinks to.0 ≡ o → (f : Option FlatGroup) → slice_get state.groups x.sink.0 ≡ f → (g : Option FlatGroup) → slice_get state.groups to.0 ≡ g
          → IsSound spec_of state (arrived_with x.index parcel (arrival_between state x (option_map (target_of to) o) f g)) (moved_stream x.index.0 parcel ∷ [])
      by None e f ef g eg = inl tt
      by (Some s) e None ef g eg = inl tt
      by (Some s) e (Some from) ef None eg = inl tt
      by (Some s) e (Some from) ef (Some group) eg = inner s e from ef group eg (member_of from.members x.index) (feed_to x s.map) refl
