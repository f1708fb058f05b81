-- A message that is put back leaves the state as it was before it was handed out.
use Rattle.std.proofs.Common.{arith, ◌≡◌, ℕ, zero, suc, ◌+◌, ◌-◌, ◌<◌, ◌≤◌, List, [], ◌∷◌, ◌++◌, length, Option, Some, None, Bool, true, false, refl, ap, sym, subst, ◌∙◌, cond, ⊎_elim}
use Rattle.std.specs.Prelude.{nat_eq, filter, flat_map, set, get_or, IsSome, IfSome}
use Rattle.std.specs.List.{find}
use Rattle.std.specs.Option.{option_to_list}
use Rattle.std.specs.FinMap as finite
use Rattle.std.proofs.lemmas.Bool.{cond-true, cond-false, and_parts, and_right, eq-eqb, eqb-true, false≢true, cases_lt}
use Rattle.std.proofs.lemmas.List.{set-set, set-get_or, get_or-set_same}
use Rattle.std.proofs.lemmas.Option.{none-some, same_Some}
use Rattle.px_types.specs.declared.ids.InputId.{InputId}
use Rattle.px_types.specs.declared.ids.SinkId.{SinkId}
use Rattle.px_header.specs.declared.header.SinkSpec.{SinkSpec}
use Rattle.px_model.specs.Frame.{SampleSpec}
use Rattle.px_msg.specs.declared.message.Msg.{Msg}
use Rattle.px_msg.specs.declared.message.Msg.TheVariants.{New, Attach, Detach, Write, Cork, Flush, Trigger, Prebuf, Drain, Attr, Factors, Query}
use Rattle.px_msg.specs.View.{sample_spec}
use Rattle.px_outcome.specs.declared.input.Input.{Input}
use Rattle.px_outcome.specs.declared.input.Way.{Way}
use Rattle.px_outcome.specs.declared.input.Way.TheVariants.{Coming, There, Left}
use Rattle.px_state.specs.State.{State, has_index}
use Rattle.px_state.specs.Change.{change_first}
use Rattle.px_core.specs.Orderly.{spec_in, specs_of, is_held_by, is_there}
use Rattle.px_state.specs.Out.{first_of, rest_of, next_for, on_way, with_way, inputs_past, inputs_before, past, handed_out, put_back, Roomy, room_for, room_past, with_more_room, with_less_room, sent, unsent, sent_by, unsent_by}
use Rattle.px_core.specs.Consistency.{AreInStep, IsSteady, IsConsistent, IsRising, is_coming_to, is_coming, brought_of, messages_out}
use Rattle.px_core.proofs.EntryLaws.{first_brought, Found, found_in, get_in}
use Rattle.px_core.proofs.ChangeLaws.{sink_at}
use Rattle.px_core.proofs.HandingLaws.{sink_there, list_there, some_of, out_keeps}
use Rattle.px_state.proofs.Waiting.{set_past}

-- a change that is undone
change_back : (j : InputId) (f g : Input → Input) → ((x : Input) → (g x).index.0 ≡ x.index.0) → (xs : List Input) (y : Input) → find (has_index j) xs ≡ Some y → f (g y) ≡ y → change_first (has_index j) f (change_first (has_index j) g xs) ≡ xs
change_back j f g keeps [] y e back = refl
change_back j f g keeps (x ∷ xs) y e back = step (change_back j f g keeps xs y) (nat_eq x.index.0 j.0) refl e
  where
    step : (find (has_index j) xs ≡ Some y → f (g y) ≡ y → change_first (has_index j) f (change_first (has_index j) g xs) ≡ xs) → (b : Bool) → nat_eq x.index.0 j.0 ≡ b → cond b (Some x) (find (has_index j) xs) ≡ Some y → change_first (has_index j) f (cond b (g x ∷ xs) (x ∷ change_first (has_index j) g xs)) ≡ x ∷ xs
    step later true t found =
        cond-true (nat_eq (g x).index.0 j.0) (f (g x) ∷ xs) (g x ∷ change_first (has_index j) f xs) (eq-eqb (g x).index.0 j.0 (keeps x ∙ eqb-true x.index.0 j.0 t))
        ∙ ap (λ z. z ∷ xs) (subst (λ z. f (g z) ≡ z) (sym (same_Some x y found)) back)
    step later false t found =
        cond-false (nat_eq x.index.0 j.0) (f x ∷ change_first (has_index j) g xs) (x ∷ change_first (has_index j) f (change_first (has_index j) g xs)) t
        ∙ ap (λ zs. x ∷ zs) (later found back)

way_back : (from to : Way) (x : Input) → x.way ≡ from → on_way from (on_way to x) ≡ x
way_back from to x e = λ i. record x { way = sym e i }

comes : (way : Way) → is_coming way ≡ true → way ≡ Coming
comes Coming e = refl
comes There e = absurd (false≢true e)
comes Left e = absurd (false≢true e)

stands : (way : Way) → is_there way ≡ true → way ≡ There
stands Coming e = absurd (false≢true e)
stands There e = refl
stands Left e = absurd (false≢true e)

arrival_back : {P : Type 0} (spec_of : P → SampleSpec) (k : ℕ) (j : InputId) (s : SampleSpec) (m : Msg P) (rest : List (Msg P)) (inputs : List Input)
    → ((i : ℕ) → brought_of spec_of i m ≡ cond (nat_eq j.0 i) (s ∷ []) [])
    → ((i : ℕ) → brought_of spec_of i m ++ flat_map (brought_of spec_of i) rest ≡ option_to_list (spec_in (is_coming_to (sink_at k)) i inputs))
    → with_way j Coming (with_way j There inputs) ≡ inputs
arrival_back spec_of k j s m rest inputs brings bring =
    let first = first_brought spec_of (is_coming_to (sink_at k)) (on_way There) (λ x. refl) (λ x. and_right (nat_eq x.sink.0 k) false refl) j s m rest inputs brings bring in
    let it : Found (is_coming_to (sink_at k)) j inputs s = first.it in
    change_back j (on_way Coming) (on_way There) (λ x. refl) inputs it.input it.here
    (way_back Coming There it.input (comes it.input.way (and_parts (nat_eq it.input.sink.0 k) (is_coming it.input.way) it.passes).1))

departure_back : (k : ℕ) (j : InputId) (inputs : List Input) → IsRising inputs → IsSome (finite.get (specs_of (filter (is_held_by (sink_at k)) inputs)) j.0) → with_way j There (with_way j Left inputs) ≡ inputs
departure_back k j inputs r names =
    let some = some_of (spec_in (is_held_by (sink_at k)) j.0 inputs) (subst IsSome (get_in (is_held_by (sink_at k)) inputs r j.0) names) in
    let it : Found (is_held_by (sink_at k)) j inputs some.0 = found_in (is_held_by (sink_at k)) j inputs some.0 some.1 in
    change_back j (on_way There) (on_way Left) (λ x. refl) inputs it.input it.here
    (way_back There Left it.input (stands it.input.way (and_parts (nat_eq it.input.sink.0 k) (is_there it.input.way) it.passes).1))

inputs_back : {P : Type 0} (spec_of : P → SampleSpec) (k : ℕ) (s : SinkSpec) (inputs : List Input) (m : Msg P) (rest : List (Msg P)) → IsRising inputs → AreInStep spec_of (sink_at k) s inputs (m ∷ rest) → inputs_before m (inputs_past m inputs) ≡ inputs
inputs_back spec_of k s inputs (New n) rest r h = arrival_back spec_of k n.input (sample_spec n.spec) (New n) rest inputs (λ i. refl) h.bring
inputs_back spec_of k s inputs (Attach j parcel feed factors) rest r h = arrival_back spec_of k j (spec_of parcel) (Attach j parcel feed factors) rest inputs (λ i. refl) h.bring
inputs_back spec_of k s inputs (Detach j) rest r h = departure_back k j inputs r h.orderly.0
inputs_back spec_of k s inputs (Write input seek offset frames bytes) rest r h = refl
inputs_back spec_of k s inputs (Cork input on) rest r h = refl
inputs_back spec_of k s inputs (Flush input) rest r h = refl
inputs_back spec_of k s inputs (Trigger input) rest r h = refl
inputs_back spec_of k s inputs (Prebuf input) rest r h = refl
inputs_back spec_of k s inputs (Drain input tag) rest r h = refl
inputs_back spec_of k s inputs (Attr input attr) rest r h = refl
inputs_back spec_of k s inputs (Factors each) rest r h = refl
inputs_back spec_of k s inputs (Query input tag) rest r h = refl

lists_back : {A : Type 0} (lists : List (List A)) (k : ℕ) (x : A) → k < length lists → get_or lists k [] ≡ x ∷ rest_of (get_or lists k []) → set (set lists k (rest_of (get_or lists k []))) k (x ∷ get_or (set lists k (rest_of (get_or lists k []))) k []) ≡ lists
lists_back lists k x l e =
    set-set lists k (rest_of (get_or lists k [])) (x ∷ get_or (set lists k (rest_of (get_or lists k []))) k [])
    ∙ ap (λ xs. set lists k (x ∷ xs)) (get_or-set_same lists k (rest_of (get_or lists k [])) [] l)
    ∙ ap (set lists k) (sym e)
    ∙ set-get_or lists k []

first_is : {A : Type 0} (xs : List A) (x : A) → first_of xs ≡ Some x → xs ≡ x ∷ rest_of xs
first_is [] x e = absurd (none-some x e)
first_is (y ∷ ys) x e = ap (λ z. z ∷ ys) (same_Some y x e)

pub back_as_before : {P : Type 0} (spec_of : P → SampleSpec) (state : State P) (sink : SinkId) (m : Msg P) → IsSteady spec_of state → next_for state sink ≡ Some m → put_back sink m (handed_out sink state) ≡ state
back_as_before {P} spec_of state sink m h e =
    let first : get_or state.posted sink.0 [] ≡ m ∷ rest_of (get_or state.posted sink.0 []) = first_is (get_or state.posted sink.0 []) m e in
    let l = list_there state.posted sink.0 m (rest_of (get_or state.posted sink.0 [])) first in
    let own = sink_there state.sinks sink.0 (subst (λ n. sink.0 < n) h.lists l) in
    let inputs = inputs_back spec_of sink.0 own.0 state.inputs m (rest_of (get_or state.posted sink.0 [])) h.rising (subst (λ ms. AreInStep spec_of (sink_at sink.0) own.0 state.inputs ms) first (h.in_step sink.0 own.0 own.1)) in
    let lists = lists_back state.posted sink.0 m l first in
    ap (λ o. put_back sink m (past o sink state)) e
    ∙ (λ i. record state { posted = lists i; inputs = inputs i })

-- ---- and so do all that were handed out, the last one first

again : (n : ℕ) → n + 1 - 1 ≡ n
again n = omega arith

room_back : (sink : SinkId) (room : List ℕ) → with_less_room sink (with_more_room sink room) ≡ room
room_back sink room =
    ⊎_elim
    (λ (l : sink.0 < length room).
    set-set room sink.0 (room_for sink room + 1) (room_for sink (with_more_room sink room) - 1)
    ∙ ap (λ n. set room sink.0 (n - 1)) (get_or-set_same room sink.0 (room_for sink room + 1) 0 l)
    ∙ ap (set room sink.0) (again (room_for sink room))
    ∙ set-get_or room sink.0 0)
    (λ (l : length room ≤ sink.0).
    ap (with_less_room sink) (set_past room sink.0 (room_for sink room + 1) l)
    ∙ set_past room sink.0 (room_for sink room - 1) l)
    (cases_lt sink.0 (length room))

one_back : {P : Type 0} (spec_of : P → SampleSpec) (core : Roomy P) (sink : SinkId) (m : Msg P) → IsSteady spec_of core.state → next_for core.state sink ≡ Some m → unsent sink m (sent sink core) ≡ core
one_back {P} spec_of core sink m h e =
    let state = back_as_before spec_of core.state sink m h e in
    let room : with_less_room sink (room_past (next_for core.state sink) sink core.room) ≡ core.room = ap (λ (o : Option (Msg P)). with_less_room sink (room_past o sink core.room)) e ∙ room_back sink core.room in
    λ i. record { state = state i; room = room i }

none_back : {P : Type 0} (core : Roomy P) (sink : SinkId) → next_for core.state sink ≡ None → sent sink core ≡ core
none_back {P} core sink e = ap (λ (o : Option (Msg P)). record { state = past o sink core.state; room = room_past o sink core.room }) e

pub all_back : {P : Type 0} (spec_of : P → SampleSpec) (sink : SinkId) (n : ℕ) (core : Roomy P) → IsSteady spec_of core.state → unsent_by sink (messages_out n sink core.state) (sent_by n sink core) ≡ core
all_back spec_of sink zero core h = refl
all_back {P} spec_of sink (suc n) core h = step (all_back spec_of sink n (sent sink core) (out_keeps spec_of core.state sink h)) (next_for core.state sink) refl
  where
    step : unsent_by sink (messages_out n sink (handed_out sink core.state)) (sent_by n sink (sent sink core)) ≡ sent sink core → (o : Option (Msg P)) → next_for core.state sink ≡ o → unsent_by sink (option_to_list o ++ messages_out n sink (handed_out sink core.state)) (sent_by n sink (sent sink core)) ≡ core
    step later None e = later ∙ none_back core sink e
    step later (Some m) e = ap (unsent sink m) later ∙ one_back spec_of core sink m h e

-- ---- the message that a core has handed out

pub whole_back : {P : Type 0} (spec_of : P → SampleSpec) (core now : Roomy P) (sink : SinkId) (r : Option (Msg P)) → IsConsistent spec_of core.state → r ≡ next_for core.state sink → now ≡ sent sink core → IfSome r (λ m. unsent sink m now ≡ core)
whole_back spec_of core now sink None h e after = tt
whole_back spec_of core now sink (Some m) h e after = ap (unsent sink m) after ∙ one_back spec_of core sink m h.steady (sym e)

pub back_consistent : {P : Type 0} (spec_of : P → SampleSpec) (core now : Roomy P) (sink : SinkId) (r : Option (Msg P)) → IsConsistent spec_of core.state → r ≡ next_for core.state sink → now ≡ sent sink core → IfSome r (λ m. IsConsistent spec_of (put_back sink m now.state))
back_consistent spec_of core now sink None h e after = tt
back_consistent {P} spec_of core now sink (Some m) h e after =
    subst (IsConsistent spec_of) (sym (ap (λ (c : Roomy P). c.state) (whole_back spec_of core now sink (Some m) h e after))) h
