-- The groups follow the inputs: what each change leaves of them, and what all of a step leave together.
use Rattle.std.proofs.Common.{◌≡◌, ℕ, zero, suc, ◌<◌, List, [], ◌∷◌, ◌++◌, map, length, Option, Some, None, Bool, true, false, refl, ap, sym, subst, ◌∙◌, arith, cond, ⊎_elim}
use Rattle.std.specs.Prelude.{◌&&◌, ◌||◌, filter, nat_eq, not, set, slice_get, IfSome, IsSome}
use Rattle.std.specs.List.{AllByRecursion, find}
use Rattle.std.proofs.lemmas.Bool.{eqb-true, eqb-false, eq-eqb, ne_eqb, false≢true, cases_eq, and_right, and_parts}
use Rattle.std.proofs.lemmas.List.{length-set, length-map, length-replicate, map-append}
use Rattle.std.proofs.lemmas.List.Elements.{filter-append}
use Rattle.std.proofs.lemmas.Option.{none-some, same_Some, slice_get_within}
use Rattle.px_types.specs.declared.ids.InputId.{InputId}
use Rattle.px_types.specs.declared.ids.SinkId.{SinkId}
use Rattle.px_header.specs.declared.header.SinkSpec.{SinkSpec}
use Rattle.px_vol.specs.Volume.{norm}
use Rattle.px_flat.specs.FlatVolume.{FlatGroup, member_of, new_group}
use Rattle.px_flat.proofs.Inputs.{rest_of, found_in, unfound_in}
use Rattle.px_msg.specs.declared.message.Msg.{Msg}
use Rattle.px_msg.specs.declared.message.Msg.TheVariants.{New, Attach, Detach, Write, Cork, Flush, Trigger, Prebuf, Drain, Attr, Factors, Query}
use Rattle.px_outcome.specs.declared.input.Input.{Input}
use Rattle.px_outcome.specs.declared.input.Standing.{Standing}
use Rattle.px_outcome.specs.declared.input.Standing.TheVariants.{Settled, Moving, Leaving}
use Rattle.px_outcome.specs.declared.input.Way.{Way}
use Rattle.px_outcome.specs.declared.input.Way.TheVariants.{There, Left}
use Rattle.px_outcome.specs.declared.target.Named.{Named}
use Rattle.px_outcome.specs.declared.target.Named.TheVariants.{Unclear, Unknown, Sink}
use Rattle.px_outcome.specs.declared.target.Target.{Target}
use Rattle.px_outcome.specs.Target.{target_of as target_in}
use Rattle.px_ctl_play.specs.Joining.{IsReadyAt}
use Rattle.px_ctl_play.specs.Notified.{IsMemberIn}
use Rattle.px_outcome.specs.declared.change.Change.TheVariants.{Authed, Named as Renamed, Masked, Defaulted, Made, Described, Leaves, Moves, Arrives, Released, Posted, Regrouped, Asked, Answered, Gone, Ended, Forgotten}
use Rattle.px_state.specs.declared.delayed.Delayed.{Delayed}
use Rattle.px_state.specs.Delayed.{is_of}
use Rattle.px_state.specs.State.{State, has_index, input_of}
use Rattle.px_state.specs.Change.{Change, change_first, drop_first, leaving, with_attr, moving_to, arrived_at, inputs_noted, ending, ending_of, posting_to_input, posting_if_there, departs, departs_of, releasing, releasing_of, changed, committed}
use Rattle.px_core.specs.Grouped.{channels_there, IsGroupOf, AreGrouped, is_owed, paid}
use Rattle.px_core.specs.Lawful.{Lawful, AreLawfulOwing, owed_for, owed_after}
use Rattle.px_core.specs.Consistency.{IsInput}
use Rattle.px_core.specs.Notice.{is_on, input_on}
use Rattle.px_state.specs.Out.{on_way, inputs_past, past}
use Rattle.px_sinks.specs.Sinks.{group_named}
use Rattle.px_core.proofs.ListLaws.{same_passed, same_left, all_weaken, found_test}
use Rattle.px_sinks.proofs.Sinks.{IsThere}
use Rattle.px_core.proofs.ChangeLaws.{sink_at, pushed_other}

abbrev channels_of : Input → ℕ
channels_of x = x.spec.channels

-- the groups of a state
abbrev pub Grouped : {P : Type 0} → List SinkId → State P → Type 0
Grouped owed state = AreGrouped owed state.sinks state.inputs state.groups

-- ---- lists

put_same : {A : Type 0} (xs : List A) (i : ℕ) (y : A) → i < length xs → slice_get (set xs i y) i ≡ Some y
put_same [] i y l = absurd (omega (arith, l))
put_same (x ∷ xs) zero y l = refl
put_same (x ∷ xs) (suc i) y l = put_same xs i y (omega (arith, l))

put_other : {A : Type 0} (xs : List A) (i j : ℕ) (y : A) → (j ≡ i → ⊥) → slice_get (set xs i y) j ≡ slice_get xs j
put_other [] i j y apart = refl
put_other (x ∷ xs) zero zero y apart = absurd (apart refl)
put_other (x ∷ xs) zero (suc j) y apart = refl
put_other (x ∷ xs) (suc i) zero y apart = refl
put_other (x ∷ xs) (suc i) (suc j) y apart = put_other xs i j y (λ e. apart (ap suc e))

neither : (a b : Bool) → (a || b) ≡ false → (a ≡ false) × (b ≡ false)
neither true b e = absurd (false≢true (sym e))
neither false b e = (refl, e)

-- ---- inputs that change, but not in what their groups are

changed_there : (q : Input → Bool) (f : Input → Input) → ((sink : SinkId) (index : InputId) (x : Input) → is_on sink index (f x) ≡ is_on sink index x) → ((x : Input) → channels_of (f x) ≡ channels_of x)
    → (inputs : List Input) (sink : SinkId) (index : InputId) → channels_there (change_first q f inputs) sink index ≡ channels_there inputs sink index
changed_there q f same_place same_channels inputs sink index =
    same_passed (is_on sink index) q f (λ x. (Input.spec x).channels) inputs (λ x found. same_place sink index x) same_channels

group_as : (sink : SinkId) (s : SinkSpec) (inputs later : List Input) (group : FlatGroup) → ((index : InputId) → channels_there later sink index ≡ channels_there inputs sink index) → IsGroupOf sink s inputs group → IsGroupOf sink s later group
group_as sink s inputs later group same h = record { channels = h.channels; members = λ index. h.members index ∙ sym (same index) }

pub still_grouped : (owed : List SinkId) (sinks : List SinkSpec) (inputs later : List Input) (groups : List FlatGroup) → ((sink : SinkId) (index : InputId) → channels_there later sink index ≡ channels_there inputs sink index) → AreGrouped owed sinks inputs groups
    → AreGrouped owed sinks later groups
still_grouped owed sinks inputs later groups same h = record {
  count = h.count;
  each = λ k s group e g free. group_as (sink_at k) s inputs later group (same (sink_at k)) (h.each k s group e g free);
}

-- ---- an input comes

pub made_grouped : (owed : List SinkId) (sinks : List SinkSpec) (inputs : List Input) (groups : List FlatGroup) (x : Input) → AreGrouped owed sinks inputs groups → AreGrouped (x.sink ∷ owed) sinks (inputs ++ x ∷ []) groups
made_grouped owed sinks inputs groups x h = record {
  count = h.count;
  each = λ k s group e g free.
      let parts = neither (nat_eq x.sink.0 k) (is_owed k owed) free in
      group_as (sink_at k) s inputs (inputs ++ x ∷ []) group
      (λ index. ap (map (λ y. (Input.spec y).channels)) (pushed_other (is_on (sink_at k) index) inputs x (and_right (nat_eq x.index.0 index.0) (nat_eq x.sink.0 k) parts.0)))
      (h.each k s group e g parts.1);
}

-- what is there then on its own sink
pub made_there : (inputs : List Input) (x : Input) (index : InputId) → channels_there (inputs ++ x ∷ []) x.sink index ≡ channels_there inputs x.sink index ++ cond (nat_eq x.index.0 index.0) (channels_of x ∷ []) []
made_there inputs x index =
    ap (map (λ y. (Input.spec y).channels)) (filter-append (is_on x.sink index) inputs (x ∷ []))
    ∙ map-append (λ y. (Input.spec y).channels) (filter (is_on x.sink index) inputs) (filter (is_on x.sink index) (x ∷ []))
    ∙ ap (λ more. channels_there inputs x.sink index ++ more) (own (nat_eq x.index.0 index.0) (nat_eq x.sink.0 x.sink.0) (eq-eqb x.sink.0 x.sink.0 refl))
  where
    own : (b c : Bool) → c ≡ true → map (λ y. (Input.spec y).channels) (cond (b && c) (x ∷ []) []) ≡ cond b (channels_of x ∷ []) []
    own true true e = refl
    own true false e = absurd (false≢true e)
    own false c e = refl

-- ---- an input goes

pub gone_grouped : (owed : List SinkId) (sinks : List SinkSpec) (inputs : List Input) (groups : List FlatGroup) (index : InputId) (o : Option Input) → input_of inputs index ≡ o → AreGrouped owed sinks inputs groups → AreGrouped (owed_for o owed) sinks (drop_first (has_index index) inputs) groups
gone_grouped owed sinks inputs groups index None here h =
    still_grouped owed sinks inputs (drop_first (has_index index) inputs) groups
    (λ sink other. ap (map (λ y. (Input.spec y).channels)) (same_left (is_on sink other) (has_index index) inputs (λ y found. absurd (none-some y (sym here ∙ found)))))
    h
gone_grouped owed sinks inputs groups index (Some x) here h = record {
  count = h.count;
  each = λ k s group e g free.
      let parts = neither (nat_eq x.sink.0 k) (is_owed k owed) free in
      group_as (sink_at k) s inputs (drop_first (has_index index) inputs) group
      (λ other. ap (map (λ y. (Input.spec y).channels))
      (same_left (is_on (sink_at k) other) (has_index index) inputs
      (λ y found. subst (λ z. is_on (sink_at k) other z ≡ false) (same_Some x y (sym here ∙ found)) (and_right (nat_eq x.index.0 other.0) (nat_eq x.sink.0 k) parts.0))))
      (h.each k s group e g parts.1);
}

-- what is there then on its own sink
pub gone_there : (inputs : List Input) (x : Input) → input_of inputs x.index ≡ Some x → (index : InputId)
    → channels_there (drop_first (has_index x.index) inputs) x.sink index ≡ cond (nat_eq x.index.0 index.0) (rest_of (channels_there inputs x.sink index)) (channels_there inputs x.sink index)
gone_there [] x here index = absurd (none-some x here)
gone_there (y ∷ inputs) x here index = step (λ found. gone_there inputs x found index) (nat_eq y.index.0 x.index.0) refl here
  where
    first : (z : Input) → z ≡ x → (b c : Bool) → nat_eq x.index.0 index.0 ≡ b → nat_eq x.sink.0 x.sink.0 ≡ c
        → channels_there inputs x.sink index ≡ cond b (rest_of (map (λ y. (Input.spec y).channels) (cond (b && c) (z ∷ filter (is_on x.sink index) inputs) (filter (is_on x.sink index) inputs)))) (map (λ y. (Input.spec y).channels) (cond (b && c) (z ∷ filter (is_on x.sink index) inputs) (filter (is_on x.sink index) inputs)))
    first z same true true e f = refl
    first z same true false e f = absurd (false≢true (sym f ∙ eq-eqb x.sink.0 x.sink.0 refl))
    first z same false c e f = refl

    later : (b d : Bool) → (d ≡ true → b ≡ false)
        → channels_there (drop_first (has_index x.index) inputs) x.sink index ≡ cond b (rest_of (channels_there inputs x.sink index)) (channels_there inputs x.sink index)
        → map (λ y. (Input.spec y).channels) (cond d (y ∷ filter (is_on x.sink index) (drop_first (has_index x.index) inputs)) (filter (is_on x.sink index) (drop_first (has_index x.index) inputs)))
        ≡ cond b (rest_of (map (λ y. (Input.spec y).channels) (cond d (y ∷ filter (is_on x.sink index) inputs) (filter (is_on x.sink index) inputs)))) (map (λ y. (Input.spec y).channels) (cond d (y ∷ filter (is_on x.sink index) inputs) (filter (is_on x.sink index) inputs)))
    later b false apart rest = rest
    later true true apart rest = absurd (false≢true (sym (apart refl)))
    later false true apart rest = ap (λ more. channels_of y ∷ more) rest

    not_both : (d : Bool) → nat_eq y.index.0 x.index.0 ≡ false → (nat_eq y.index.0 index.0 && d) ≡ true → nat_eq x.index.0 index.0 ≡ false
    not_both d off both = ne_eqb x.index.0 index.0 (λ same. eqb-false y.index.0 x.index.0 off (eqb-true y.index.0 index.0 (and_parts (nat_eq y.index.0 index.0) d both).0 ∙ sym same))

    step : (input_of inputs x.index ≡ Some x → channels_there (drop_first (has_index x.index) inputs) x.sink index ≡ cond (nat_eq x.index.0 index.0) (rest_of (channels_there inputs x.sink index)) (channels_there inputs x.sink index))
        → (b : Bool) → nat_eq y.index.0 x.index.0 ≡ b → cond b (Some y) (input_of inputs x.index) ≡ Some x
        → channels_there (cond b inputs (y ∷ drop_first (has_index x.index) inputs)) x.sink index ≡ cond (nat_eq x.index.0 index.0) (rest_of (channels_there (y ∷ inputs) x.sink index)) (channels_there (y ∷ inputs) x.sink index)
    step more true e found =
        subst (λ z. channels_there inputs x.sink index ≡ cond (nat_eq x.index.0 index.0) (rest_of (channels_there (z ∷ inputs) x.sink index)) (channels_there (z ∷ inputs) x.sink index)) (sym (same_Some y x found))
        (first x refl (nat_eq x.index.0 index.0) (nat_eq x.sink.0 x.sink.0) refl refl)
    step more false e found = later (nat_eq x.index.0 index.0) (is_on x.sink index y) (not_both (nat_eq y.sink.0 x.sink.0) e) (more found)

-- ---- a sink has another group

owed_before : (sink : SinkId) (k : ℕ) → (k ≡ sink.0 → ⊥) → (owed : List SinkId) → is_owed k (paid sink owed) ≡ false → is_owed k owed ≡ false
owed_before sink k apart [] free = free
owed_before sink k apart (o ∷ owed) free = step (owed_before sink k apart owed) (nat_eq o.0 sink.0) refl free
  where
    step : (is_owed k (paid sink owed) ≡ false → is_owed k owed ≡ false) → (b : Bool) → nat_eq o.0 sink.0 ≡ b → is_owed k (cond (not b) (o ∷ paid sink owed) (paid sink owed)) ≡ false → (nat_eq o.0 k || is_owed k owed) ≡ false
    step later true e free = λ i. ne_eqb o.0 k (λ same. apart (sym same ∙ eqb-true o.0 sink.0 e)) i || later free i
    step later false e free =
        let parts = neither (nat_eq o.0 k) (is_owed k (paid sink owed)) free in
        λ i. parts.0 i || later parts.1 i

pub regrouped_grouped : (owed : List SinkId) (sinks : List SinkSpec) (inputs : List Input) (groups : List FlatGroup) (sink : SinkId) (group : FlatGroup) → sink.0 < length sinks
    → ((s : SinkSpec) → slice_get sinks sink.0 ≡ Some s → IsGroupOf sink s inputs group) → AreGrouped owed sinks inputs groups → AreGrouped (paid sink owed) sinks inputs (set groups sink.0 group)
regrouped_grouped owed sinks inputs groups sink group there given h = record {
  count = length-set groups sink.0 group ∙ h.count;
  each = λ k s other e g free.
      ⊎_elim
      (λ (same : k ≡ sink.0).
      subst (λ n. slice_get sinks n ≡ Some s → slice_get (set groups sink.0 group) n ≡ Some other → IsGroupOf (sink_at n) s inputs other) (sym same)
      (λ e g. subst (IsGroupOf sink s inputs) (same_Some group other (sym (put_same groups sink.0 group (subst (λ n. sink.0 < n) (sym h.count) there)) ∙ g)) (given s e))
      e g)
      (λ (apart : k ≡ sink.0 → ⊥). h.each k s other e (sym (put_other groups sink.0 k group apart) ∙ g) (owed_before sink k apart owed free))
      (cases_eq k sink.0);
}

-- ---- the changes

noted_there : {P : Type 0} (index : InputId) (m : Msg P) (inputs : List Input) (sink : SinkId) (other : InputId) → channels_there (inputs_noted index m inputs) sink other ≡ channels_there inputs sink other
noted_there index (New n) inputs sink other = refl
noted_there index (Attach input parcel feed factors) inputs sink other = refl
noted_there index (Detach input) inputs sink other = refl
noted_there index (Write input seek offset frames bytes) inputs sink other = refl
noted_there index (Cork input on) inputs sink other = refl
noted_there index (Flush input) inputs sink other = refl
noted_there index (Trigger input) inputs sink other = refl
noted_there index (Prebuf input) inputs sink other = refl
noted_there index (Drain input tag) inputs sink other = refl
noted_there index (Attr input attr) inputs sink other = changed_there (has_index index) (with_attr attr) (λ sink index x. refl) (λ x. refl) inputs sink other
noted_there index (Factors each) inputs sink other = refl
noted_there index (Query input tag) inputs sink other = refl

posted_grouped : {P : Type 0} (owed : List SinkId) (state : State P) (o : Option Input) (m : Msg P) → Grouped owed state → Grouped owed (posting_if_there o m state)
posted_grouped owed state None m h = h
posted_grouped {P} owed state (Some x) m h = by x.standing
  where
    noted : AreGrouped owed state.sinks (inputs_noted x.index m state.inputs) state.groups
    noted = still_grouped owed state.sinks state.inputs (inputs_noted x.index m state.inputs) state.groups (noted_there x.index m state.inputs) h

    by : (standing : Standing) → Grouped owed (posting_to_input standing x m state)
    by Settled = noted
    by (Moving to) = noted
    by Leaving = h

left_grouped : {P : Type 0} (owed : List SinkId) (state : State P) (o : Option Input) → Grouped owed state → Grouped owed (ending_of o state)
left_grouped owed state None h = h
left_grouped {P} owed state (Some x) h = by x.standing
  where
    ended : AreGrouped owed state.sinks (change_first (has_index x.index) leaving state.inputs) state.groups
    ended = still_grouped owed state.sinks state.inputs (change_first (has_index x.index) leaving state.inputs) state.groups (changed_there (has_index x.index) leaving (λ sink index x. refl) (λ x. refl) state.inputs) h

    by : (standing : Standing) → Grouped owed (ending standing x state)
    by Settled = ended
    by (Moving to) = ended
    by Leaving = h

-- ---- an input moves

pub departed_grouped : (owed : List SinkId) (sinks : List SinkSpec) (inputs : List Input) (groups : List FlatGroup) (index : InputId) (to : SinkId) → AreGrouped owed sinks inputs groups → AreGrouped owed sinks (change_first (has_index index) (moving_to to) inputs) groups
departed_grouped owed sinks inputs groups index to h =
    still_grouped owed sinks inputs (change_first (has_index index) (moving_to to) inputs) groups (changed_there (has_index index) (moving_to to) (λ sink index x. refl) (λ x. refl) inputs) h

moved_grouped : {P : Type 0} (owed : List SinkId) (state : State P) (to : SinkId) (o : Option Input) → Grouped owed state → Grouped owed (departs_of to o state)
moved_grouped owed state to None h = h
moved_grouped {P} owed state to (Some x) h = by x.standing
  where
    by : (standing : Standing) → Grouped owed (departs to standing x state)
    by Settled = departed_grouped owed state.sinks state.inputs state.groups x.index to h
    by (Moving on) = h
    by Leaving = h

released_grouped : {P : Type 0} (owed : List SinkId) (state : State P) (o : Option Input) → Grouped owed state → Grouped owed (releasing_of o state)
released_grouped owed state None h = h
released_grouped {P} owed state (Some x) h = by (find (is_of x.index) state.delayed)
  where
    by : (o : Option (Delayed P)) → Grouped owed (releasing x o state)
    by None = h
    by (Some d) = h

change_grouped : {P : Type 0} (owed : List SinkId) (state : State P) (c : Change P) → Lawful state c → Grouped owed state → Grouped (owed_after state c owed) (changed state c)
change_grouped owed state (Authed conn version) lawful h = h
change_grouped owed state (Renamed conn list) lawful h = h
change_grouped owed state (Masked conn mask) lawful h = h
change_grouped owed state (Defaulted sink) lawful h = h
change_grouped owed state (Made x m streams inputs) lawful h = made_grouped owed state.sinks state.inputs state.groups x h
change_grouped owed state (Described index list) lawful h = h
change_grouped owed state (Leaves index) lawful h = left_grouped owed state (input_of state.inputs index) h
change_grouped owed state (Moves index to) lawful h = moved_grouped owed state to (input_of state.inputs index) h
change_grouped owed state (Arrives index m) lawful h = absurd lawful
change_grouped owed state (Released index) lawful h = released_grouped owed state (input_of state.inputs index) h
change_grouped owed state (Posted index m) lawful h = posted_grouped owed state (input_of state.inputs index) m h
change_grouped owed state (Regrouped sink group m) lawful h = regrouped_grouped owed state.sinks state.inputs state.groups sink group lawful.there lawful.follows h
change_grouped owed state (Asked w) lawful h = h
change_grouped owed state (Answered w) lawful h = h
change_grouped owed state (Gone index) lawful h = gone_grouped owed state.sinks state.inputs state.groups index (input_of state.inputs index) refl h
change_grouped owed state (Ended conn reason fault at) lawful h = h
change_grouped owed state (Forgotten conn) lawful h = h

-- and all of them
pub changes_grouped : {P : Type 0} (owed : List SinkId) (state : State P) (changes : List (Change P)) → AreLawfulOwing owed state changes → Grouped owed state → Grouped [] (committed state changes)
changes_grouped [] state [] lawful h = h
changes_grouped (sink ∷ owed) state [] lawful h = absurd lawful
changes_grouped owed state (c ∷ changes) lawful h = changes_grouped (owed_after state c owed) (changed state c) changes lawful.1 (change_grouped owed state c lawful.0 h)

-- ---- a message is handed out

way_there : (index : InputId) (way : Way) (inputs : List Input) (sink : SinkId) (other : InputId) → channels_there (change_first (has_index index) (on_way way) inputs) sink other ≡ channels_there inputs sink other
way_there index way inputs sink other = changed_there (has_index index) (on_way way) (λ sink index x. refl) (λ x. refl) inputs sink other

past_there : {P : Type 0} (m : Msg P) (inputs : List Input) (sink : SinkId) (other : InputId) → channels_there (inputs_past m inputs) sink other ≡ channels_there inputs sink other
past_there (New n) inputs sink other = way_there n.input There inputs sink other
past_there (Attach input parcel feed factors) inputs sink other = way_there input There inputs sink other
past_there (Detach input) inputs sink other = way_there input Left inputs sink other
past_there (Write input seek offset frames bytes) inputs sink other = refl
past_there (Cork input on) inputs sink other = refl
past_there (Flush input) inputs sink other = refl
past_there (Trigger input) inputs sink other = refl
past_there (Prebuf input) inputs sink other = refl
past_there (Drain input tag) inputs sink other = refl
past_there (Attr input attr) inputs sink other = refl
past_there (Factors each) inputs sink other = refl
past_there (Query input tag) inputs sink other = refl

pub past_grouped : {P : Type 0} (state : State P) (o : Option (Msg P)) (sink : SinkId) → Grouped [] state → Grouped [] (past o sink state)
past_grouped state None sink h = h
past_grouped state (Some m) sink h = still_grouped [] state.sinks state.inputs (inputs_past m state.inputs) state.groups (past_there m state.inputs) h

-- ---- an input comes from another sink

-- the groups of the sink that it leaves and of the one that it comes to are still to follow
pub arrived_grouped : (owed : List SinkId) (sinks : List SinkSpec) (inputs : List Input) (groups : List FlatGroup) (x : Input) (to : SinkId) → input_of inputs x.index ≡ Some x → AreGrouped owed sinks inputs groups
    → AreGrouped (x.sink ∷ to ∷ owed) sinks (change_first (has_index x.index) (arrived_at to) inputs) groups
arrived_grouped owed sinks inputs groups x to here h = record {
  count = h.count;
  each = λ k s group e g free.
      let parts = neither (nat_eq x.sink.0 k) (is_owed k (to ∷ owed)) free in
      let more = neither (nat_eq to.0 k) (is_owed k owed) parts.1 in
      group_as (sink_at k) s inputs (change_first (has_index x.index) (arrived_at to) inputs) group
      (λ other. same_passed (is_on (sink_at k) other) (has_index x.index) (arrived_at to) (λ y. (Input.spec y).channels) inputs
      (λ y found.
      and_right (nat_eq y.index.0 other.0) (nat_eq to.0 k) more.0
      ∙ sym (subst (λ z. is_on (sink_at k) other z ≡ false) (same_Some x y (sym here ∙ found)) (and_right (nat_eq x.index.0 other.0) (nat_eq x.sink.0 k) parts.0)))
      (λ y. refl))
      (h.each k s group e g more.1);
}

-- ---- a new state

new_group_of : (k : ℕ) (s : SinkSpec) (sinks : List SinkSpec) (group : FlatGroup) → slice_get sinks k ≡ Some s → slice_get (map (λ s. new_group (SinkSpec.spec s).channels) sinks) k ≡ Some group → group ≡ new_group s.spec.channels
new_group_of k s [] group e g = absurd (none-some s e)
new_group_of zero s (x ∷ sinks) group e g = sym (same_Some (new_group x.spec.channels) group g) ∙ ap (λ (y : SinkSpec). new_group y.spec.channels) (same_Some x s e)
new_group_of (suc k) s (x ∷ sinks) group e g = new_group_of k s sinks group e g

new_is : (k : ℕ) (s : SinkSpec) → IsGroupOf (sink_at k) s [] (new_group s.spec.channels)
new_is k s = record { channels = length-replicate s.spec.channels norm; members = λ index. refl }

pub new_grouped : (sinks : List SinkSpec) → AreGrouped [] sinks [] (map (λ s. new_group (SinkSpec.spec s).channels) sinks)
new_grouped sinks = record {
  count = length-map sinks (λ s. new_group (SinkSpec.spec s).channels);
  each = λ k s group e g free. subst (IsGroupOf (sink_at k) s []) (sym (new_group_of k s sinks group e g)) (new_is k s);
}

-- ---- what a group has

-- an input that is found on a sink is in its group
found_there : (sink : SinkId) (index : InputId) (inputs : List Input) (x : Input) → find (is_on sink index) inputs ≡ Some x → 0 < length (channels_there inputs sink index)
found_there sink index [] x found = absurd (none-some x found)
found_there sink index (y ∷ inputs) x found = step (found_there sink index inputs x) (is_on sink index y) found
  where
    step : (find (is_on sink index) inputs ≡ Some x → 0 < length (channels_there inputs sink index)) → (b : Bool) → cond b (Some y) (find (is_on sink index) inputs) ≡ Some x
        → 0 < length (map (λ z. (Input.spec z).channels) (cond b (y ∷ filter (is_on sink index) inputs) (filter (is_on sink index) inputs)))
    step later true found = omega arith
    step later false found = later found

-- and one that was never made is in none
none_there : (n : ℕ) (sink : SinkId) (inputs : List Input) → AllByRecursion (λ x. (Input.index x).0 < n) inputs → channels_there inputs sink (record { 0 = n }) ≡ []
none_there n sink [] below = refl
none_there n sink (x ∷ inputs) below = step (none_there n sink inputs below.1) (nat_eq x.index.0 n) (nat_eq x.sink.0 sink.0) (ne_eqb x.index.0 n (λ same. absurd (omega (arith, below.0, same))))
  where
    step : channels_there inputs sink (record { 0 = n }) ≡ [] → (b c : Bool) → b ≡ false → map (λ z. (Input.spec z).channels) (cond (b && c) (x ∷ filter (is_on sink (record { 0 = n })) inputs) (filter (is_on sink (record { 0 = n })) inputs)) ≡ []
    step later true c e = absurd (false≢true (sym e))
    step later false c e = later

slice_there : {A : Type 0} (xs : List A) (k : ℕ) → k < length xs → (x : A) × (slice_get xs k ≡ Some x)
slice_there [] k l = absurd (omega (arith, l))
slice_there (x ∷ xs) zero l = (x, refl)
slice_there (x ∷ xs) (suc k) l = slice_there xs k (omega (arith, l))

-- a sink's group is there where the sink is
sink_with : (sinks : List SinkSpec) (groups : List FlatGroup) (k : ℕ) (group : FlatGroup) → length groups ≡ length sinks → slice_get groups k ≡ Some group → (s : SinkSpec) × (slice_get sinks k ≡ Some s)
sink_with sinks groups k group count g = slice_there sinks k (subst (λ n. k < n) count (slice_get_within groups k group g))

pub member_there : (sinks : List SinkSpec) (inputs : List Input) (groups : List FlatGroup) → AreGrouped [] sinks inputs groups → (sink : SinkId) (index : InputId) (o : Option Input) → o ≡ input_on inputs sink index → (own : Option FlatGroup) → own ≡ slice_get groups sink.0 → IfSome o (IsMemberIn own)
member_there sinks inputs groups h sink index None e own g = tt
member_there sinks inputs groups h sink index (Some x) e None g = tt
member_there sinks inputs groups h sink index (Some x) e (Some group) g =
    let s = sink_with sinks groups sink.0 group h.count (sym g) in
    let is = h.each sink.0 s.0 group s.1 (sym g) refl in
    let same : x.index.0 ≡ index.0 = eqb-true x.index.0 index.0 (and_parts (nat_eq x.index.0 index.0) (nat_eq x.sink.0 sink.0) (found_test (is_on sink index) inputs x (sym e))).0 in
    subst (λ n. IsSome (member_of group.members (record { 0 = n }))) (sym same)
    (found_in group.members index (subst (λ xs. 0 < length xs) (sym (is.members index)) (found_there sink index inputs x (sym e))))

pub named_ready : (sinks : List SinkSpec) (inputs : List Input) (groups : List FlatGroup) (made : ℕ) → AreGrouped [] sinks inputs groups → AllByRecursion (IsInput sinks made) inputs → (named : Named) → ((target : Target) → target_in named ≡ Some target → IsThere sinks target)
    → (own : Option FlatGroup) → own ≡ group_named groups named → IsReadyAt named made own
named_ready sinks inputs groups made h each Unclear there own g = tt
named_ready sinks inputs groups made h each Unknown there own g = tt
named_ready sinks inputs groups made h each (Sink target) there None g = tt
named_ready sinks inputs groups made h each (Sink target) there (Some group) g =
    let it = there target refl in
    let is = h.each target.index.0 it.sink group it.there (sym g) refl in
    record {
      channels = is.channels ∙ sym (ap (λ (t : Target). t.spec.channels) it.is);
      new = unfound_in group.members (record { 0 = made })
          (is.members (record { 0 = made }) ∙ none_there made (sink_at target.index.0) inputs (all_weaken (IsInput sinks made) (λ y. (Input.index y).0 < made) (λ y i. i.given) inputs each));
    }
