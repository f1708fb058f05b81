-- What handing out a message keeps, and what it leaves at its sink.
use Rattle.std.proofs.Common.{◌≡◌, ℕ, zero, suc, ◌<◌, ◌≤◌, List, [], ◌∷◌, ◌++◌, map, length, take, drop, Option, Some, None, Bool, true, false, refl, ap, sym, subst, ◌∙◌, arith, ⊎_elim}
use Rattle.std.specs.Prelude.{◌&&◌, filter, flat_map, nat_eq, get_or, slice_get, IsSome}
use Rattle.std.specs.List.{AllByRecursion, find}
use Rattle.std.specs.Option.{option_to_list}
use Rattle.std.specs.FinMap as finite
use Rattle.std.proofs.lemmas.Bool.{eqb-true, ne_eqb, false≢true, cases_lt, and_right, and_left, and_from, and_parts}
use Rattle.std.proofs.lemmas.List.{length-set, get_or_past, get_or-set_same}
use Rattle.std.proofs.lemmas.Option.{same_Some}
use Rattle.px_types.specs.declared.ids.InputId.{InputId}
use Rattle.px_types.specs.declared.ids.SinkId.{SinkId}
use Rattle.px_header.specs.declared.header.SinkSpec.{SinkSpec}
use Rattle.px_model.specs.Frame.{SampleSpec}
use Rattle.px_model.specs.Orderly.{inputs_left, inputs_left_by}
use Rattle.px_msg.specs.declared.message.Msg.{Msg}
use Rattle.px_msg.specs.declared.message.Msg.TheVariants.{New, Attach, Detach, Write, Cork, Flush, Trigger, Prebuf, Drain, Attr, Factors, Query}
use Rattle.px_msg.specs.View.{sample_spec}
use Rattle.px_outcome.specs.declared.input.Input.{Input}
use Rattle.px_outcome.specs.declared.input.Way.{Way}
use Rattle.px_outcome.specs.declared.input.Way.TheVariants.{Coming, There, Left}
use Rattle.px_outcome.specs.declared.waiting.Waiting.{Waiting}
use Rattle.px_state.specs.State.{State, has_index, is_bound_for, is_settled, bound_for, settled_on}
use Rattle.px_core.specs.Orderly.{entry_of, spec_in, specs_of, is_held_by, is_there, inputs_there}
use Rattle.px_state.specs.Out.{waiting_for, first_of, rest_of, on_way, with_way, inputs_past, past, handed_out}
use Rattle.px_core.specs.Consistency.{AreInStep, IsAwaiting, IsInput, IsSteady, IsRising, is_coming_to, is_coming, brought_of, handed_out_by, messages_out}
use Rattle.px_core.proofs.ListLaws.{no_cons, same_passed, no_more_pass, all_change}
use Rattle.px_core.proofs.EntryLaws.{FirstBrought, first_brought, Found, found_in, get_in, in_same, removed, inserted, rising_change}
use Rattle.px_core.proofs.InStepLaws.{view, unmoved, handed}
use Rattle.px_core.proofs.GoingLaws.{still_waits}
use Rattle.px_core.proofs.ChangeLaws.{sink_at, held_on, set_in_step}

-- ---- the inputs once a message was handed out

pub record Past {P : Type 0} (spec_of : P → SampleSpec) (k : ℕ) (inputs later : List Input) (m : Msg P) (rest : List (Msg P)) : Type 0 where
  pub rising : IsRising later
  pub each : (sinks : List SinkSpec) (made : ℕ) → AllByRecursion (IsInput sinks made) inputs → AllByRecursion (IsInput sinks made) later
  pub waits : (asked : List Waiting) → AllByRecursion (IsAwaiting inputs) asked → AllByRecursion (IsAwaiting later) asked
  pub left : inputs_left spec_of (specs_of (filter (is_held_by (sink_at k)) inputs)) (view m) ≡ specs_of (filter (is_held_by (sink_at k)) later)
  pub settled : (index : ℕ) → map entry_of (settled_on later (sink_at index)) ≡ map entry_of (settled_on inputs (sink_at index))
  pub bound : (index : ℕ) → length (bound_for later (sink_at index)) ≤ length (bound_for inputs (sink_at index))
  pub bring : (i : ℕ) → flat_map (brought_of spec_of i) rest ≡ option_to_list (spec_in (is_coming_to (sink_at k)) i later)
  pub others_held : (index : ℕ) → (index ≡ k → ⊥) → map entry_of (filter (is_held_by (sink_at index)) later) ≡ map entry_of (filter (is_held_by (sink_at index)) inputs)
  pub others_coming : (index : ℕ) → (index ≡ k → ⊥) → (i : ℕ) → spec_in (is_coming_to (sink_at index)) i later ≡ spec_in (is_coming_to (sink_at index)) i inputs

way_each : (j : InputId) (way : Way) (inputs : List Input) (sinks : List SinkSpec) (made : ℕ) → AllByRecursion (IsInput sinks made) inputs → AllByRecursion (IsInput sinks made) (with_way j way inputs)
way_each j way inputs sinks made h =
    all_change (IsInput sinks made) (has_index j) (on_way way) (λ y k. record { given = k.given; sink_there = k.sink_there; goes_there = k.goes_there; playable = k.playable; map = k.map; repaired = k.repaired }) inputs h

way_waits : (j : InputId) (way : Way) (inputs : List Input) (asked : List Waiting) → AllByRecursion (IsAwaiting inputs) asked → AllByRecursion (IsAwaiting (with_way j way inputs)) asked
way_waits j way inputs asked h = still_waits (has_index j) (on_way way) (λ y. refl) (λ y t. t) inputs asked h

way_settled : (j : InputId) (way : Way) (inputs : List Input) (index : ℕ) → map entry_of (settled_on (with_way j way inputs) (sink_at index)) ≡ map entry_of (settled_on inputs (sink_at index))
way_settled j way inputs index = same_passed (is_settled (sink_at index)) (has_index j) (on_way way) entry_of inputs (λ y found. refl) (λ y. refl)

way_bound : (j : InputId) (way : Way) (inputs : List Input) (index : ℕ) → length (bound_for (with_way j way inputs) (sink_at index)) ≤ length (bound_for inputs (sink_at index))
way_bound j way inputs index = no_more_pass (is_bound_for (sink_at index)) (has_index j) (on_way way) (λ y t. t) inputs

way_rising : (j : InputId) (way : Way) (inputs : List Input) → IsRising inputs → IsRising (with_way j way inputs)
way_rising j way inputs r = rising_change (has_index j) (on_way way) (λ x. refl) inputs r

-- an input of another sink passes no test of this one, wherever it is on its way
way_other : (p : Way → Bool) (j : InputId) (way : Way) (inputs : List Input) (y : Input) → find (has_index j) inputs ≡ Some y → (k index : ℕ) → y.sink.0 ≡ k → (index ≡ k → ⊥) → map entry_of (filter (λ x. nat_eq (Input.sink x).0 index && p (Input.way x)) (with_way j way inputs)) ≡ map entry_of (filter (λ x. nat_eq (Input.sink x).0 index && p (Input.way x)) inputs)
way_other p j way inputs y here k index on apart =
    same_passed (λ x. nat_eq (Input.sink x).0 index && p (Input.way x)) (has_index j) (on_way way) entry_of inputs
    (λ z found.
    let e : z.sink.0 ≡ k = ap (λ (x : Input). x.sink.0) (sym (same_Some y z (sym here ∙ found))) ∙ on in
    let off : nat_eq z.sink.0 index ≡ false = ne_eqb z.sink.0 index (λ (h : z.sink.0 ≡ index). apart (sym h ∙ e)) in
    and_left (nat_eq z.sink.0 index) (p way) off ∙ sym (and_left (nat_eq z.sink.0 index) (p z.way) off))
    (λ z. refl)

coming_other : (j : InputId) (way : Way) (inputs : List Input) → IsRising inputs → (y : Input) → find (has_index j) inputs ≡ Some y → (k index : ℕ) → y.sink.0 ≡ k → (index ≡ k → ⊥) → (i : ℕ) → spec_in (is_coming_to (sink_at index)) i (with_way j way inputs) ≡ spec_in (is_coming_to (sink_at index)) i inputs
coming_other j way inputs r y here k index on apart =
    in_same (is_coming_to (sink_at index)) (with_way j way inputs) inputs (way_rising j way inputs r) r (way_other is_coming j way inputs y here k index on apart)

-- a stream arrives
arrived : {P : Type 0} (spec_of : P → SampleSpec) (k : ℕ) (inputs : List Input) (m : Msg P) (rest : List (Msg P)) (j : InputId) (s : SampleSpec) → IsRising inputs
    → inputs_left spec_of (specs_of (filter (is_held_by (sink_at k)) inputs)) (view m) ≡ finite.insert (specs_of (filter (is_held_by (sink_at k)) inputs)) j.0 s
    → FirstBrought spec_of (is_coming_to (sink_at k)) (on_way There) j s rest inputs
    → Past spec_of k inputs (with_way j There inputs) m rest
arrived spec_of k inputs m rest j s r puts first =
    let y : Input = first.it.input in
    let parts : (nat_eq y.sink.0 k ≡ true) × (is_coming y.way ≡ true) = and_parts (nat_eq y.sink.0 k) (is_coming y.way) first.it.passes in
    let on : y.sink.0 ≡ k = eqb-true y.sink.0 k parts.0 in
    record {
      rising = way_rising j There inputs r;
      each = way_each j There inputs;
      waits = way_waits j There inputs;
      left = puts ∙ ap (finite.insert (specs_of (filter (is_held_by (sink_at k)) inputs)) j.0) (sym first.it.spec)
          ∙ inserted (is_held_by (sink_at k)) j (on_way There) (λ x. refl) inputs r y first.it.here (and_from (nat_eq y.sink.0 k) true parts.0 refl);
      settled = way_settled j There inputs;
      bound = way_bound j There inputs;
      bring = first.others;
      others_held = λ index apart. way_other is_there j There inputs y first.it.here k index on apart;
      others_coming = λ index apart. coming_other j There inputs r y first.it.here k index on apart;
    }

there_no_more_comes : (way : Way) → is_there way ≡ true → is_coming way ≡ false
there_no_more_comes Coming e = absurd (false≢true e)
there_no_more_comes There e = refl
there_no_more_comes Left e = refl

pub some_of : (o : Option SampleSpec) → IsSome o → (s : SampleSpec) × (o ≡ Some s)
some_of None e = absurd (false≢true e)
some_of (Some s) e = (s, refl)

-- a stream leaves
departed : {P : Type 0} (spec_of : P → SampleSpec) (k : ℕ) (inputs : List Input) (rest : List (Msg P)) (j : InputId) → IsRising inputs
    → IsSome (finite.get (specs_of (filter (is_held_by (sink_at k)) inputs)) j.0)
    → ((i : ℕ) → flat_map (brought_of spec_of i) rest ≡ option_to_list (spec_in (is_coming_to (sink_at k)) i inputs))
    → Past spec_of k inputs (with_way j Left inputs) (Detach j) rest
departed spec_of k inputs rest j r names bring =
    let some = some_of (spec_in (is_held_by (sink_at k)) j.0 inputs) (subst IsSome (get_in (is_held_by (sink_at k)) inputs r j.0) names) in
    let it : Found (is_held_by (sink_at k)) j inputs some.0 = found_in (is_held_by (sink_at k)) j inputs some.0 some.1 in
    let y : Input = it.input in
    let parts : (nat_eq y.sink.0 k ≡ true) × (is_there y.way ≡ true) = and_parts (nat_eq y.sink.0 k) (is_there y.way) it.passes in
    let on : y.sink.0 ≡ k = eqb-true y.sink.0 k parts.0 in
    record {
      rising = way_rising j Left inputs r;
      each = way_each j Left inputs;
      waits = way_waits j Left inputs;
      left = removed (is_held_by (sink_at k)) j (on_way Left) (λ x. refl) inputs r y it.here (and_right (nat_eq y.sink.0 k) false refl);
      settled = way_settled j Left inputs;
      bound = way_bound j Left inputs;
      bring = λ i. bring i ∙ ap option_to_list (sym (in_same (is_coming_to (sink_at k)) (with_way j Left inputs) inputs (way_rising j Left inputs r) r
          (same_passed (is_coming_to (sink_at k)) (has_index j) (on_way Left) entry_of inputs
          (λ z found.
          and_right (nat_eq z.sink.0 k) false refl
          ∙ sym (subst (λ x. is_coming_to (sink_at k) x ≡ false) (same_Some y z (sym it.here ∙ found)) (and_right (nat_eq y.sink.0 k) (is_coming y.way) (there_no_more_comes y.way parts.1))))
          (λ z. refl)) i));
      others_held = λ index apart. way_other is_there j Left inputs y it.here k index on apart;
      others_coming = λ index apart. coming_other j Left inputs r y it.here k index on apart;
    }

-- nothing moves
stayed : {P : Type 0} (spec_of : P → SampleSpec) (k : ℕ) (inputs : List Input) (m : Msg P) (rest : List (Msg P)) → IsRising inputs
    → inputs_left spec_of (specs_of (filter (is_held_by (sink_at k)) inputs)) (view m) ≡ specs_of (filter (is_held_by (sink_at k)) inputs)
    → ((i : ℕ) → flat_map (brought_of spec_of i) rest ≡ option_to_list (spec_in (is_coming_to (sink_at k)) i inputs))
    → Past spec_of k inputs inputs m rest
stayed spec_of k inputs m rest r left bring = record {
  rising = r;
  each = λ sinks made h. h;
  waits = λ asked h. h;
  left = left;
  settled = λ index. refl;
  bound = λ index. omega arith;
  bring = bring;
  others_held = λ index apart. refl;
  others_coming = λ index apart i. refl;
}

pub past_by : {P : Type 0} (spec_of : P → SampleSpec) (k : ℕ) (s : SinkSpec) (inputs : List Input) (m : Msg P) (rest : List (Msg P)) → IsRising inputs → AreInStep spec_of (sink_at k) s inputs (m ∷ rest) → Past spec_of k inputs (inputs_past m inputs) m rest
past_by spec_of k s inputs (New n) rest r h =
    arrived spec_of k inputs (New n) rest n.input (sample_spec n.spec) r refl
    (first_brought spec_of (is_coming_to (sink_at k)) (on_way There) (λ x. refl) (λ x. and_right (nat_eq x.sink.0 k) false refl) n.input (sample_spec n.spec) (New n) rest inputs (λ i. refl) h.bring)
past_by spec_of k s inputs (Attach j parcel feed factors) rest r h =
    arrived spec_of k inputs (Attach j parcel feed factors) rest j (spec_of parcel) r refl
    (first_brought spec_of (is_coming_to (sink_at k)) (on_way There) (λ x. refl) (λ x. and_right (nat_eq x.sink.0 k) false refl) j (spec_of parcel) (Attach j parcel feed factors) rest inputs (λ i. refl) h.bring)
past_by spec_of k s inputs (Detach j) rest r h = departed spec_of k inputs rest j r h.orderly.0 h.bring
past_by spec_of k s inputs (Write input seek offset frames bytes) rest r h = stayed spec_of k inputs (Write input seek offset frames bytes) rest r refl h.bring
past_by spec_of k s inputs (Cork input on) rest r h = stayed spec_of k inputs (Cork input on) rest r refl h.bring
past_by spec_of k s inputs (Flush input) rest r h = stayed spec_of k inputs (Flush input) rest r refl h.bring
past_by spec_of k s inputs (Trigger input) rest r h = stayed spec_of k inputs (Trigger input) rest r refl h.bring
past_by spec_of k s inputs (Prebuf input) rest r h = stayed spec_of k inputs (Prebuf input) rest r refl h.bring
past_by spec_of k s inputs (Drain input tag) rest r h = stayed spec_of k inputs (Drain input tag) rest r refl h.bring
past_by spec_of k s inputs (Attr input attr) rest r h = stayed spec_of k inputs (Attr input attr) rest r refl h.bring
past_by spec_of k s inputs (Factors each) rest r h = stayed spec_of k inputs (Factors each) rest r refl h.bring
past_by spec_of k s inputs (Query input tag) rest r h = stayed spec_of k inputs (Query input tag) rest r refl h.bring

-- ---- the state

pub sink_there : (sinks : List SinkSpec) (k : ℕ) → k < length sinks → (s : SinkSpec) × (slice_get sinks k ≡ Some s)
sink_there [] k l = absurd (omega arith)
sink_there (s ∷ sinks) zero l = (s, refl)
sink_there (s ∷ sinks) (suc k) l = sink_there sinks k (omega (arith, l))

pub list_there : {A : Type 0} (lists : List (List A)) (k : ℕ) (x : A) (xs : List A) → get_or lists k [] ≡ x ∷ xs → k < length lists
list_there lists k x xs e =
    ⊎_elim
    (λ (l : k < length lists). l)
    (λ (l : length lists ≤ k). absurd (no_cons x xs (sym e ∙ get_or_past lists k [] l)))
    (cases_lt k (length lists))

past_keeps : {P : Type 0} (spec_of : P → SampleSpec) (state : State P) (sink : SinkId) → IsSteady spec_of state → (waiting : List (Msg P)) → get_or state.posted sink.0 [] ≡ waiting → IsSteady spec_of (past (first_of waiting) sink state)
past_keeps spec_of state sink h [] e = h
past_keeps spec_of state sink h (m ∷ rest) e =
    let l = list_there state.posted sink.0 m rest e in
    let own = sink_there state.sinks sink.0 (subst (λ n. sink.0 < n) h.lists l) in
    let it : Past spec_of sink.0 state.inputs (inputs_past m state.inputs) m rest =
    past_by spec_of sink.0 own.0 state.inputs m rest h.rising (subst (λ ms. AreInStep spec_of (sink_at sink.0) own.0 state.inputs ms) e (h.in_step sink.0 own.0 own.1)) in
    record {
      sinks = h.sinks;
      distinct = h.distinct;
      rising = it.rising;
      inputs = it.each state.sinks state.inputs_made h.inputs;
      waiting = it.waits state.waiting h.waiting;
      lists = length-set state.posted sink.0 (rest_of (get_or state.posted sink.0 [])) ∙ h.lists;
      in_step = set_in_step spec_of state.sinks (inputs_past m state.inputs) state.posted sink.0 (rest_of (get_or state.posted sink.0 [])) l
          (λ s g.
          subst (λ ms. AreInStep spec_of (sink_at sink.0) s (inputs_past m state.inputs) ms) (sym (ap rest_of e))
          (handed spec_of (sink_at sink.0) s state.inputs (inputs_past m state.inputs) rest m it.left (it.settled sink.0) it.bring (it.bound sink.0)
          (subst (λ ms. AreInStep spec_of (sink_at sink.0) s state.inputs ms) e (h.in_step sink.0 s g))))
          (λ index s apart g.
          unmoved spec_of (sink_at index) s state.inputs (inputs_past m state.inputs) (get_or state.posted index []) (it.others_held index apart) (it.settled index) (it.others_coming index apart) (it.bound index)
          (h.in_step index s g));
    }

pub out_keeps : {P : Type 0} (spec_of : P → SampleSpec) (state : State P) (sink : SinkId) → IsSteady spec_of state → IsSteady spec_of (handed_out sink state)
out_keeps spec_of state sink h = past_keeps spec_of state sink h (get_or state.posted sink.0 []) refl

-- ---- what it leaves

past_spares : {P : Type 0} (spec_of : P → SampleSpec) (state : State P) (sink other : SinkId) → (other.0 ≡ sink.0 → ⊥) → IsSteady spec_of state → (waiting : List (Msg P)) → get_or state.posted sink.0 [] ≡ waiting → held_on other.0 (past (first_of waiting) sink state).inputs ≡ held_on other.0 state.inputs
past_spares spec_of state sink other apart h [] e = refl
past_spares spec_of state sink other apart h (m ∷ rest) e =
    let l = list_there state.posted sink.0 m rest e in
    let own = sink_there state.sinks sink.0 (subst (λ n. sink.0 < n) h.lists l) in
    (past_by spec_of sink.0 own.0 state.inputs m rest h.rising (subst (λ ms. AreInStep spec_of (sink_at sink.0) own.0 state.inputs ms) e (h.in_step sink.0 own.0 own.1))).others_held other.0 apart

pub out_spares : {P : Type 0} (spec_of : P → SampleSpec) (state : State P) (sink other : SinkId) → (other.0 ≡ sink.0 → ⊥) → IsSteady spec_of state → held_on other.0 (handed_out sink state).inputs ≡ held_on other.0 state.inputs
out_spares spec_of state sink other apart h = past_spares spec_of state sink other apart h (get_or state.posted sink.0 []) refl

-- one message: those behind it wait, and the sink's inputs are those that it leaves
pub past_leaves : {P : Type 0} (spec_of : P → SampleSpec) (state : State P) (sink : SinkId) → IsSteady spec_of state → (m : Msg P) (rest : List (Msg P)) → get_or state.posted sink.0 [] ≡ m ∷ rest
    → (waiting_for (past (Some m) sink state) sink ≡ rest) × (inputs_there (past (Some m) sink state) sink ≡ inputs_left spec_of (inputs_there state sink) (view m))
past_leaves spec_of state sink h m rest e =
    let l = list_there state.posted sink.0 m rest e in
    let own = sink_there state.sinks sink.0 (subst (λ n. sink.0 < n) h.lists l) in
    let it : Past spec_of sink.0 state.inputs (inputs_past m state.inputs) m rest =
    past_by spec_of sink.0 own.0 state.inputs m rest h.rising (subst (λ ms. AreInStep spec_of (sink_at sink.0) own.0 state.inputs ms) e (h.in_step sink.0 own.0 own.1)) in
    (get_or-set_same state.posted sink.0 (rest_of (get_or state.posted sink.0 [])) [] l ∙ ap rest_of e, sym it.left)

-- so many messages
pub record Out {P : Type 0} (spec_of : P → SampleSpec) (state : State P) (sink : SinkId) (n : ℕ) (waiting : List (Msg P)) : Type 0 where
  pub keeps : IsSteady spec_of (handed_out_by n sink state)
  pub messages : messages_out n sink state ≡ take n waiting
  pub waits : waiting_for (handed_out_by n sink state) sink ≡ drop n waiting
  pub leaves : inputs_there (handed_out_by n sink state) sink ≡ inputs_left_by spec_of (inputs_there state sink) (map view (take n waiting))

-- where none waits, nothing changes
none_out : {P : Type 0} (spec_of : P → SampleSpec) (state : State P) (sink : SinkId) → IsSteady spec_of state → waiting_for state sink ≡ [] → (n : ℕ) → (handed_out_by n sink state ≡ state) × (messages_out n sink state ≡ [])
none_out spec_of state sink h e zero = (refl, refl)
none_out {P} spec_of state sink h e (suc n) =
    let same : handed_out sink state ≡ state = ap (λ ms. past (first_of ms) sink state) e in
    let more = none_out spec_of state sink h e n in (
      ap (handed_out_by n sink) same ∙ more.0,
      (λ i. option_to_list (first_of (e i)) ++ messages_out n sink (same i)) ∙ more.1,
    )

pub all_out : {P : Type 0} (spec_of : P → SampleSpec) (state : State P) (sink : SinkId) → IsSteady spec_of state → (n : ℕ) (waiting : List (Msg P)) → waiting_for state sink ≡ waiting → Out spec_of state sink n waiting
all_out spec_of state sink h zero waiting e = record { keeps = h; messages = refl; waits = e; leaves = refl }
all_out {P} spec_of state sink h (suc n) [] e =
    let stays = none_out spec_of state sink h e (suc n) in
    record {
      keeps = subst (IsSteady spec_of) (sym stays.0) h;
      messages = stays.1;
      waits = ap (λ (s : State P). waiting_for s sink) stays.0 ∙ e;
      leaves = ap (λ (s : State P). inputs_there s sink) stays.0;
    }
all_out {P} spec_of state sink h (suc n) (m ∷ rest) e =
    let next : handed_out sink state ≡ past (Some m) sink state = ap (λ ms. past (first_of ms) sink state) e in
    let one = past_leaves spec_of state sink h m rest e in
    let it : Out spec_of (past (Some m) sink state) sink n rest = all_out spec_of (past (Some m) sink state) sink (subst (IsSteady spec_of) next (out_keeps spec_of state sink h)) n rest one.0 in
    record {
      keeps = subst (λ (s : State P). IsSteady spec_of (handed_out_by n sink s)) (sym next) it.keeps;
      messages = (λ i. option_to_list (first_of (e i)) ++ messages_out n sink (next i)) ∙ ap (λ ms. m ∷ ms) it.messages;
      waits = ap (λ (s : State P). waiting_for (handed_out_by n sink s) sink) next ∙ it.waits;
      leaves = ap (λ (s : State P). inputs_there (handed_out_by n sink s) sink) next ∙ it.leaves ∙ ap (λ inputs. inputs_left_by spec_of inputs (map view (take n rest))) one.1;
    }
