-- Each lawful change keeps what the state keeps, and so do all of a step.
use Rattle.std.proofs.Common.{◌≡◌, ◌<◌, ℕ, length, List, [], ◌∷◌, ◌++◌, Option, Some, None, Bool, refl, ap, sym, subst, ◌∙◌}
use Rattle.std.specs.Prelude.{IfSome, MatchOption, IsSome, ⊤}
use Rattle.std.specs.List.{AllByRecursion, find}
use Rattle.std.specs.FinMap as finite
use Rattle.std.proofs.lemmas.Bool.{cond_both, eqb-true}
use Rattle.px_types.specs.declared.ids.ConnId.{ConnId}
use Rattle.px_types.specs.declared.ids.InputId.{InputId}
use Rattle.px_types.specs.declared.ids.SinkId.{SinkId}
use Rattle.px_names.specs.Names.{Naming}
use Rattle.px_names.specs.declared.input_lists.InputList.{InputList}
use Rattle.px_names.specs.InputLists.{with_list_of, without_list_of}
use Rattle.px_header.specs.declared.header.SinkSpec.{SinkSpec}
use Rattle.px_model.specs.Frame.{SampleSpec}
use Rattle.px_model.specs.Orderly.{Inputs, IsWhole}
use Rattle.px_flat.specs.FlatVolume.{FlatGroup}
use Rattle.px_msg.specs.declared.message.Msg.{Msg}
use Rattle.px_msg.specs.declared.message.Msg.TheVariants.{New, Attach, Detach, Write, Cork, Flush, Trigger, Prebuf, Drain, Attr, Factors, Query}
use Rattle.px_msg.specs.declared.message.NewStream.{NewStream}
use Rattle.px_msg.specs.View.{sample_spec}
use Rattle.px_outcome.specs.declared.input.Connection.{Connection}
use Rattle.px_outcome.specs.declared.input.Input.{Input}
use Rattle.px_outcome.specs.declared.input.Standing.{Standing}
use Rattle.px_outcome.specs.declared.input.Standing.TheVariants.{Settled, Moving, Leaving}
use Rattle.px_outcome.specs.declared.change.Change.TheVariants.{Authed, Named, Masked, Defaulted, Made, Described, Leaves, Moves, Arrives, Released, Posted, Regrouped, Asked, Answered, Gone, Ended, Forgotten}
use Rattle.px_outcome.specs.declared.waiting.Waiting.{Waiting}
use Rattle.px_ctl_play.specs.Asked.{MOST_ON_SINK}
use Rattle.px_state.specs.declared.delayed.Delayed.{Delayed}
use Rattle.px_state.specs.State.{State, has_index, has_number, input_of, settled_on, bound_for, is_as}
use Rattle.px_state.specs.Change.{Change, change_first, drop_first, authed, marked, with_streams, with_connection, renamed, masked, defaulted, forgotten, posting, regrouping, ending_of, noting, posting_to_input, posting_if_there, departs, departs_of, releasing, releasing_of, changed, committed}
use Rattle.px_core.specs.Orderly.{specs_of}
use Rattle.px_core.specs.Consistency.{AreDistinct, IsAwaiting, IsInput, IsFedAt, GoesTo, IsSteady}
use Rattle.px_core.specs.Lawful.{is_of, Brings, IsNew, Suits, AreFor, HasLeft, IsReleased, AreReleased, Lawful, AreLawfulOwing, owed_after}
use Rattle.px_core.proofs.ListLaws.{all_change, all_drop, all_push, found_all, found_test}
pub use Rattle.px_state.proofs.Found.{by_own, none_goes}
use Rattle.px_core.proofs.HandingLaws.{sink_there}
use Rattle.px_core.proofs.ChangeLaws.{sink_at, held_on, settled_spec, on_own, IsPostable, posting_keeps, attr_held, attr_keeps, ending_keeps, ending_held, gone_keeps, gone_held, with_input, new_keeps, new_held}
use Rattle.px_core.proofs.MoveLaws.{departing_keeps, departed_held}

-- ---- connections

pub distinct_change : (q : Connection → Bool) (f : Connection → Connection) → ((c : Connection) → (f c).conn.0 ≡ c.conn.0) → (cs : List Connection) → AreDistinct cs → AreDistinct (change_first q f cs)
distinct_change q f keeps [] d = tt
distinct_change q f keeps (c ∷ cs) d =
    cond_both (q c) (f c ∷ cs) (c ∷ change_first q f cs) AreDistinct
    (λ e. (subst (λ n. AllByRecursion (λ b. (Connection.conn b).0 ≡ n → ⊥) cs) (sym (keeps c)) d.0, d.1))
    (λ e. (all_change (λ b. (Connection.conn b).0 ≡ c.conn.0 → ⊥) q f (λ b apart same. apart (sym (keeps b) ∙ same)) cs d.0, distinct_change q f keeps cs d.1))

pub distinct_drop : (q : Connection → Bool) (cs : List Connection) → AreDistinct cs → AreDistinct (drop_first q cs)
distinct_drop q [] d = tt
distinct_drop q (c ∷ cs) d =
    cond_both (q c) cs (c ∷ drop_first q cs) AreDistinct
    (λ e. d.1)
    (λ e. (all_drop (λ b. (Connection.conn b).0 ≡ c.conn.0 → ⊥) q cs d.0, distinct_drop q cs d.1))

-- a sink may have another group
regrouped_keeps : {P : Type 0} (spec_of : P → SampleSpec) (state : State P) → IsSteady spec_of state → (sink : ℕ) (group : FlatGroup) → IsSteady spec_of (regrouping sink group state)
regrouped_keeps spec_of state h sink group =
    record { sinks = h.sinks; distinct = h.distinct; rising = h.rising; inputs = h.inputs; waiting = h.waiting; lists = h.lists; in_step = h.in_step }

-- all but inputs and messages may change
pub others_keep : {P : Type 0} (spec_of : P → SampleSpec) (state : State P) → IsSteady spec_of state → (connections : List Connection) → AreDistinct connections → (names : Naming) (clients : ℕ) → IsSteady spec_of (record state { connections = connections; names = names; clients_made = clients })
others_keep spec_of state h connections d names clients = record {
  sinks = h.sinks;
  distinct = d;
  rising = h.rising;
  inputs = h.inputs;
  waiting = h.waiting;
  lists = h.lists;
  in_step = h.in_step;
}

-- and so may the lists of inputs
listed_keeps : {P : Type 0} (spec_of : P → SampleSpec) (state : State P) → IsSteady spec_of state → (lists : List InputList) → IsSteady spec_of (record state { lists = lists })
listed_keeps spec_of state h lists = record {
  sinks = h.sinks;
  distinct = h.distinct;
  rising = h.rising;
  inputs = h.inputs;
  waiting = h.waiting;
  lists = h.lists;
  in_step = h.in_step;
}

-- and the messages that wait while their inputs move
pub delayed_keeps : {P : Type 0} (spec_of : P → SampleSpec) (state : State P) → IsSteady spec_of state → (delayed : List (Delayed P)) → IsSteady spec_of (record state { delayed = delayed })
delayed_keeps spec_of state h delayed = record {
  sinks = h.sinks;
  distinct = h.distinct;
  rising = h.rising;
  inputs = h.inputs;
  waiting = h.waiting;
  lists = h.lists;
  in_step = h.in_step;
}

connection_keeps : {P : Type 0} (spec_of : P → SampleSpec) (state : State P) → IsSteady spec_of state → (conn : ConnId) (f : Connection → Connection) → ((c : Connection) → (f c).conn.0 ≡ c.conn.0) → IsSteady spec_of (record state { connections = change_first (has_number conn) f state.connections })
connection_keeps spec_of state h conn f keeps =
    others_keep spec_of state h (change_first (has_number conn) f state.connections) (distinct_change (has_number conn) f keeps state.connections h.distinct) state.names state.clients_made

-- ---- a state follows another

-- what is kept is kept, and each sink has the inputs that it had
pub record Follows {P : Type 0} (spec_of : P → SampleSpec) (before after : State P) : Type 0 where
  pub keeps : IsSteady spec_of after
  pub held : (k : ℕ) → held_on k after.inputs ≡ held_on k before.inputs

same_held : {P : Type 0} (spec_of : P → SampleSpec) (before after : State P) → after.inputs ≡ before.inputs → IsSteady spec_of after → Follows spec_of before after
same_held spec_of before after e h = record { keeps = h; held = λ k. ap (held_on k) e }

pub unchanged : {P : Type 0} {spec_of : P → SampleSpec} {state : State P} → IsSteady spec_of state → Follows spec_of state state
unchanged h = record { keeps = h; held = λ k. refl }

-- other requests are answered later
asked_follow : {P : Type 0} (spec_of : P → SampleSpec) (state : State P) → IsSteady spec_of state → (waiting : List Waiting) → AllByRecursion (IsAwaiting state.inputs) waiting → Follows spec_of state (record state { waiting = waiting })
asked_follow spec_of state h waiting all =
    same_held spec_of state (record state { waiting = waiting }) refl
    (record { sinks = h.sinks; distinct = h.distinct; rising = h.rising; inputs = h.inputs; waiting = all; lists = h.lists; in_step = h.in_step })

-- ---- an input is made

is_new_stream : {P : Type 0} (x : Input) (s : SinkSpec) (m : Msg P) → Brings x s m → (n : NewStream) × (m ≡ New n) × (n.input.0 ≡ x.index.0) × (n.spec ≡ x.spec)
is_new_stream x s (New n) b = (n, refl, b.0, b.1)
is_new_stream x s (Attach input parcel feed factors) b = absurd b
is_new_stream x s (Detach input) b = absurd b
is_new_stream x s (Write input seek offset frames bytes) b = absurd b
is_new_stream x s (Cork input on) b = absurd b
is_new_stream x s (Flush input) b = absurd b
is_new_stream x s (Trigger input) b = absurd b
is_new_stream x s (Prebuf input) b = absurd b
is_new_stream x s (Drain input tag) b = absurd b
is_new_stream x s (Attr input attr) b = absurd b
is_new_stream x s (Factors each) b = absurd b
is_new_stream x s (Query input tag) b = absurd b

made_keeps : {P : Type 0} (spec_of : P → SampleSpec) (state : State P) (x : Input) (m : Msg P) → IsSteady spec_of state → IsNew state x m → IsSteady spec_of (posting x.sink.0 m (with_input x state))
made_keeps {P} spec_of state x m h new =
    let own = sink_there state.sinks x.sink.0 new.is.sink_there in
    let it = is_new_stream x own.0 m (new.brings own.0 own.1) in
    subst (λ message. IsSteady spec_of (posting x.sink.0 message (with_input x state))) (sym it.1)
    (new_keeps spec_of state x it.0 h new.next new.way new.standing new.is it.2 it.3 new.room
    (λ s e. (subst (Brings x s) it.1 (new.brings s e)).2))

-- ---- an input's sink is told something

named : (x : Input) (there : Inputs) → finite.get there x.index.0 ≡ Some (sample_spec x.spec) → (input : ℕ) → input ≡ x.index.0 → IsSome (finite.get there input)
named x there get input e = subst (λ n. IsSome (finite.get there n)) (sym e) (subst IsSome (sym get) refl)

postable_input : {P : Type 0} (spec_of : P → SampleSpec) (spec : SampleSpec) (x : Input) (there : Inputs) → finite.get there x.index.0 ≡ Some (sample_spec x.spec) → (m : Msg P) → Suits x m → IsPostable spec_of spec there m
postable_input spec_of spec x there get (New n) suits = absurd suits
postable_input spec_of spec x there get (Attach input parcel feed factors) suits = absurd suits
postable_input spec_of spec x there get (Detach input) suits = absurd suits
postable_input {P} spec_of spec x there get (Write input seek offset frames bytes) suits = record {
  brings = λ i. refl;
  names = named x there get input.0 suits.0;
  fits = subst (λ o. MatchOption o ⊤ (λ s. IsWhole s (record { input = input.0; seek = seek; offset = offset; frames = frames; bytes = bytes }))) (sym (ap (finite.get there) suits.0 ∙ get)) suits.1;
  left = refl;
  is_posted = tt;
}
postable_input {P} spec_of spec x there get (Cork input on) suits = record { brings = λ i. refl; names = named x there get input.0 suits; fits = tt; left = refl; is_posted = tt }
postable_input {P} spec_of spec x there get (Flush input) suits = record { brings = λ i. refl; names = named x there get input.0 suits; fits = tt; left = refl; is_posted = tt }
postable_input {P} spec_of spec x there get (Trigger input) suits = record { brings = λ i. refl; names = named x there get input.0 suits; fits = tt; left = refl; is_posted = tt }
postable_input {P} spec_of spec x there get (Prebuf input) suits = record { brings = λ i. refl; names = named x there get input.0 suits; fits = tt; left = refl; is_posted = tt }
postable_input {P} spec_of spec x there get (Drain input tag) suits = record { brings = λ i. refl; names = named x there get input.0 suits; fits = tt; left = refl; is_posted = tt }
postable_input {P} spec_of spec x there get (Attr input attr) suits = record { brings = λ i. refl; names = named x there get input.0 suits.0; fits = suits.1; left = refl; is_posted = tt }
postable_input spec_of spec x there get (Factors each) suits = absurd suits
postable_input {P} spec_of spec x there get (Query input tag) suits = record { brings = λ i. refl; names = named x there get input.0 suits; fits = tt; left = refl; is_posted = tt }

-- new buffer attributes are its own
noting_keeps : {P : Type 0} (spec_of : P → SampleSpec) (state : State P) (x : Input) (m : Msg P) → IsSteady spec_of state → Suits x m → Follows spec_of state (noting x.index m state)
noting_keeps spec_of state x (New n) h suits = unchanged h
noting_keeps spec_of state x (Attach input parcel feed factors) h suits = unchanged h
noting_keeps spec_of state x (Detach input) h suits = unchanged h
noting_keeps spec_of state x (Write input seek offset frames bytes) h suits = unchanged h
noting_keeps spec_of state x (Cork input on) h suits = unchanged h
noting_keeps spec_of state x (Flush input) h suits = unchanged h
noting_keeps spec_of state x (Trigger input) h suits = unchanged h
noting_keeps spec_of state x (Prebuf input) h suits = unchanged h
noting_keeps spec_of state x (Drain input tag) h suits = unchanged h
noting_keeps spec_of state x (Attr input attr) h suits = record { keeps = attr_keeps spec_of state x.index attr suits.1 h; held = attr_held x.index attr state.inputs }
noting_keeps spec_of state x (Factors each) h suits = unchanged h
noting_keeps spec_of state x (Query input tag) h suits = unchanged h

posting_to_input_keeps : {P : Type 0} (spec_of : P → SampleSpec) (state : State P) (x : Input) (m : Msg P) (standing : Standing) → IsSteady spec_of state → input_of state.inputs x.index ≡ Some x → x.standing ≡ standing → Suits x m → Follows spec_of state (posting_to_input standing x m state)
posting_to_input_keeps {P} spec_of state x m Settled h here settled suits =
    let posted : IsSteady spec_of (posting x.sink.0 m state) =
    posting_keeps spec_of state (sink_at x.sink.0) m h (found_all (IsInput state.sinks state.inputs_made) (has_index x.index) state.inputs x h.inputs here).sink_there
    (λ s e. postable_input spec_of (sample_spec s.spec) x (specs_of (settled_on state.inputs (sink_at x.sink.0))) (settled_spec state.inputs h.rising x.sink.0 x here (on_own x settled)) m suits) in
    let noted = noting_keeps spec_of (posting x.sink.0 m state) x m posted suits in
    record { keeps = noted.keeps; held = noted.held }
posting_to_input_keeps {P} spec_of state x m (Moving to) h here e suits =
    let noted = noting_keeps spec_of state x m h suits in
    record { keeps = delayed_keeps spec_of (noting x.index m state) noted.keeps (state.delayed ++ record { input = x.index; message = m } ∷ []); held = noted.held }
posting_to_input_keeps spec_of state x m Leaving h here e suits = unchanged h

-- ---- a sink has other factors

postable_factors : {P : Type 0} (spec_of : P → SampleSpec) (s : SinkSpec) (there : Inputs) (m : Msg P) → AreFor s m → IsPostable spec_of (sample_spec s.spec) there m
postable_factors spec_of s there (New n) f = absurd f
postable_factors spec_of s there (Attach input parcel feed factors) f = absurd f
postable_factors spec_of s there (Detach input) f = absurd f
postable_factors spec_of s there (Write input seek offset frames bytes) f = absurd f
postable_factors spec_of s there (Cork input on) f = absurd f
postable_factors spec_of s there (Flush input) f = absurd f
postable_factors spec_of s there (Trigger input) f = absurd f
postable_factors spec_of s there (Prebuf input) f = absurd f
postable_factors spec_of s there (Drain input tag) f = absurd f
postable_factors spec_of s there (Attr input attr) f = absurd f
postable_factors spec_of s there (Factors each) f = record { brings = λ i. refl; names = tt; fits = f.0; left = refl; is_posted = f.1 }
postable_factors spec_of s there (Query input tag) f = absurd f

-- ---- the changes

leaves_follow : {P : Type 0} (spec_of : P → SampleSpec) (state : State P) → IsSteady spec_of state → (index : InputId) (o : Option Input) → input_of state.inputs index ≡ o → Follows spec_of state (ending_of o state)
leaves_follow spec_of state h index None e = unchanged h
leaves_follow spec_of state h index (Some x) e = record {
  keeps = ending_keeps spec_of state x x.standing h (by_own state.inputs index x e) refl;
  held = ending_held state x x.standing;
}

posted_follow : {P : Type 0} (spec_of : P → SampleSpec) (state : State P) → IsSteady spec_of state → (index : InputId) (m : Msg P) (o : Option Input) → input_of state.inputs index ≡ o → IfSome o (λ x. Suits x m) → Follows spec_of state (posting_if_there o m state)
posted_follow spec_of state h index m None e suits = unchanged h
posted_follow spec_of state h index m (Some x) e suits = posting_to_input_keeps spec_of state x m x.standing h (by_own state.inputs index x e) refl suits

gone_follow : {P : Type 0} (spec_of : P → SampleSpec) (state : State P) → IsSteady spec_of state → (index : InputId) (o : Option Input) → input_of state.inputs index ≡ o → IfSome o HasLeft → Follows spec_of state (changed state (Gone index))
gone_follow {P} spec_of state h index None e left =
    subst (λ (inputs : List Input). Follows spec_of state (record state { inputs = inputs; lists = without_list_of index state.lists })) (sym (none_goes (has_index index) state.inputs e))
    (same_held spec_of state (record state { lists = without_list_of index state.lists }) refl (listed_keeps spec_of state h (without_list_of index state.lists)))
gone_follow {P} spec_of state h index (Some x) e left =
    let here = by_own state.inputs index x e in
    subst (λ n. Follows spec_of state (record state { inputs = drop_first (has_index (record { 0 = n })) state.inputs; lists = without_list_of index state.lists })) (eqb-true x.index.0 index.0 (found_test (has_index index) state.inputs x e))
    (record {
      keeps = listed_keeps spec_of (record state { inputs = drop_first (has_index x.index) state.inputs }) (gone_keeps spec_of state x h here left.standing left.way) (without_list_of index state.lists);
      held = gone_held state x here left.way;
    })

-- ---- an input moves

departs_follow : {P : Type 0} (spec_of : P → SampleSpec) (state : State P) (to : SinkId) (x : Input) (standing : Standing) → IsSteady spec_of state → input_of state.inputs x.index ≡ Some x → x.standing ≡ standing
    → GoesTo state.sinks x.sink (IsFedAt x) to → length (bound_for state.inputs to) < MOST_ON_SINK → Follows spec_of state (departs to standing x state)
departs_follow spec_of state to x Settled h here e goes room = record { keeps = departing_keeps spec_of state x to h here e goes room; held = departed_held to state.inputs x }
departs_follow spec_of state to x (Moving on) h here e goes room = unchanged h
departs_follow spec_of state to x Leaving h here e goes room = unchanged h

moves_follow : {P : Type 0} (spec_of : P → SampleSpec) (state : State P) → IsSteady spec_of state → (index : InputId) (to : SinkId) (o : Option Input) → input_of state.inputs index ≡ o
    → IfSome o (λ x. GoesTo state.sinks x.sink (IsFedAt x) to) → length (bound_for state.inputs to) < MOST_ON_SINK → Follows spec_of state (departs_of to o state)
moves_follow spec_of state h index to None e goes room = unchanged h
moves_follow spec_of state h index to (Some x) e goes room = departs_follow spec_of state to x x.standing h (by_own state.inputs index x e) refl goes room

-- a message that waited goes on its way
releases : {P : Type 0} (spec_of : P → SampleSpec) (state : State P) → IsSteady spec_of state → (x : Input) → input_of state.inputs x.index ≡ Some x → (o : Option (Delayed P)) → IfSome o (IsReleased x) → Follows spec_of state (releasing x o state)
releases spec_of state h x here None ok = unchanged h
releases {P} spec_of state h x here (Some d) ok =
    let later : State P = record state { delayed = drop_first (is_of x.index) state.delayed } in
    same_held spec_of state (posting x.sink.0 d.message later) refl
    (posting_keeps spec_of later (sink_at x.sink.0) d.message (delayed_keeps spec_of state h (drop_first (is_of x.index) state.delayed))
    (found_all (IsInput state.sinks state.inputs_made) (has_index x.index) state.inputs x h.inputs here).sink_there
    (λ s e. postable_input spec_of (sample_spec s.spec) x (specs_of (settled_on state.inputs (sink_at x.sink.0))) (settled_spec state.inputs h.rising x.sink.0 x here (on_own x ok.standing)) d.message ok.suits))

released_follow : {P : Type 0} (spec_of : P → SampleSpec) (state : State P) → IsSteady spec_of state → (index : InputId) (o : Option Input) → input_of state.inputs index ≡ o → IfSome o (AreReleased state.delayed) → Follows spec_of state (releasing_of o state)
released_follow spec_of state h index None e ok = unchanged h
released_follow spec_of state h index (Some x) e ok = releases spec_of state h x (by_own state.inputs index x e) (find (is_of x.index) state.delayed) ok

pub change_follows : {P : Type 0} (spec_of : P → SampleSpec) (state : State P) (c : Change P) → IsSteady spec_of state → Lawful state c → Follows spec_of state (changed state c)
change_follows spec_of state (Authed conn version) h lawful = same_held spec_of state (changed state (Authed conn version)) refl (connection_keeps spec_of state h conn (authed version) (λ d. refl))
change_follows spec_of state (Named conn list) h lawful = same_held spec_of state (changed state (Named conn list)) refl (others_keep spec_of state h state.connections h.distinct (renamed conn list state.names) state.clients_made)
change_follows spec_of state (Masked conn mask) h lawful = same_held spec_of state (changed state (Masked conn mask)) refl (others_keep spec_of state h state.connections h.distinct (masked conn mask state.names) state.clients_made)
change_follows spec_of state (Defaulted sink) h lawful = same_held spec_of state (changed state (Defaulted sink)) refl (others_keep spec_of state h state.connections h.distinct (defaulted sink state.names) state.clients_made)
change_follows {P} spec_of state (Made x m streams inputs) h lawful =
    subst (λ n. Follows spec_of state (posting x.sink.0 m (record (with_connection x.conn (with_streams streams) state) { inputs = state.inputs ++ x ∷ []; inputs_made = n }))) (sym lawful.1)
    (record {
      keeps = made_keeps spec_of (with_connection x.conn (with_streams streams) state) x m (connection_keeps spec_of state h x.conn (with_streams streams) (λ d. refl))
          (record { next = lawful.0.next; way = lawful.0.way; standing = lawful.0.standing; is = lawful.0.is; room = lawful.0.room; brings = lawful.0.brings });
      held = new_held state.inputs x lawful.0.way;
    })
change_follows spec_of state (Described index list) h lawful = same_held spec_of state (changed state (Described index list)) refl (listed_keeps spec_of state h (with_list_of index list state.lists))
change_follows spec_of state (Leaves index) h lawful = leaves_follow spec_of state h index (input_of state.inputs index) refl
change_follows spec_of state (Moves index to) h lawful = moves_follow spec_of state h index to (input_of state.inputs index) refl lawful.goes lawful.room
change_follows spec_of state (Arrives index m) h lawful = absurd lawful
change_follows spec_of state (Released index) h lawful = released_follow spec_of state h index (input_of state.inputs index) refl lawful
change_follows spec_of state (Posted index m) h lawful = posted_follow spec_of state h index m (input_of state.inputs index) refl lawful
change_follows spec_of state (Regrouped sink group m) h lawful =
    same_held spec_of state (posting sink.0 m (regrouping sink.0 group state)) refl
    (posting_keeps spec_of (regrouping sink.0 group state) sink m (regrouped_keeps spec_of state h sink.0 group) lawful.there (λ s e. postable_factors spec_of s (specs_of (settled_on state.inputs sink)) m (lawful.factors s e)))
change_follows spec_of state (Asked w) h lawful = asked_follow spec_of state h (state.waiting ++ w ∷ []) (all_push (IsAwaiting state.inputs) state.waiting w h.waiting lawful)
change_follows spec_of state (Answered w) h lawful = asked_follow spec_of state h (drop_first (is_as w) state.waiting) (all_drop (IsAwaiting state.inputs) (is_as w) state.waiting h.waiting)
change_follows spec_of state (Gone index) h lawful = gone_follow spec_of state h index (input_of state.inputs index) refl lawful
change_follows spec_of state (Ended conn reason fault at) h lawful = same_held spec_of state (changed state (Ended conn reason fault at)) refl (connection_keeps spec_of state h conn marked (λ d. refl))
change_follows spec_of state (Forgotten conn) h lawful =
    same_held spec_of state (changed state (Forgotten conn)) refl
    (others_keep spec_of state h (drop_first (has_number conn) state.connections) (distinct_drop (has_number conn) state.connections h.distinct) (forgotten conn state.names) state.clients_made)

-- and all of them
pub changes_follow : {P : Type 0} (spec_of : P → SampleSpec) (owed : List SinkId) (state : State P) (changes : List (Change P)) → IsSteady spec_of state → AreLawfulOwing owed state changes → Follows spec_of state (committed state changes)
changes_follow spec_of owed state [] h lawful = unchanged h
changes_follow spec_of owed state (c ∷ changes) h lawful =
    let one = change_follows spec_of state c h lawful.0 in
    let more = changes_follow spec_of (owed_after state c owed) (changed state c) changes one.keeps lawful.1 in
    record { keeps = more.keeps; held = λ k. more.held k ∙ one.held k }
