-- No index is given again: a client or input with one that was given before was there before.
use Rattle.std.proofs.Common.{◌⊎◌, inl, inr, ℕ, ◌<◌, ◌≤◌, List, [], ◌∷◌, map, length, Option, Some, None, Bool, sym, subst, arith}
use Rattle.std.specs.Prelude.{nat_lt}
use Rattle.std.specs.List.{AllByRecursion, Contains, find}
use Rattle.std.proofs.lemmas.Bool.{cond_both}
use Rattle.std.proofs.lemmas.List.Elements.{Contains-get_or, Contains-append_right}
use Rattle.px_types.specs.declared.ids.ConnId.{ConnId}
use Rattle.px_types.specs.declared.ids.InputId.{InputId}
use Rattle.px_types.specs.declared.ids.SinkId.{SinkId}
use Rattle.px_names.specs.declared.client.Client.{Client}
use Rattle.px_names.specs.Names.{Naming}
use Rattle.px_names.specs.Clients.{is_on, change_first as change_client, without_first, new_client, with_list, with_mask}
use Rattle.px_model.specs.Frame.{SampleSpec}
use Rattle.px_msg.specs.declared.message.Msg.{Msg}
use Rattle.px_msg.specs.declared.message.Msg.TheVariants.{New, Attach, Detach, Write, Cork, Flush, Trigger, Prebuf, Drain, Attr, Factors, Query}
use Rattle.px_outcome.specs.declared.change.Change.TheVariants.{Authed, Named, Masked, Defaulted, Made, Described, Leaves, Moves, Arrives, Released, Posted, Regrouped, Asked, Answered, Gone, Ended, Forgotten}
use Rattle.px_outcome.specs.declared.input.Connection.{Connection}
use Rattle.px_outcome.specs.declared.input.Input.{Input}
use Rattle.px_outcome.specs.declared.input.Way.TheVariants.{There, Left}
use Rattle.px_outcome.specs.declared.input.Standing.{Standing}
use Rattle.px_outcome.specs.declared.input.Standing.TheVariants.{Settled, Moving, Leaving}
use Rattle.px_outcome.specs.Outcome.{OutcomeParts}
use Rattle.px_state.specs.declared.delayed.Delayed.{Delayed}
use Rattle.px_state.specs.Delayed.{is_of}
use Rattle.px_state.specs.State.{State, connection_of, has_index, input_of}
use Rattle.px_state.specs.Change.{Change, change_first, leaving, with_attr, moving_to, arrived_at, inputs_noted, defaulted, ending, ending_of, posting_to_input, posting_if_there, departs, departs_of, arrives, arrives_of, releasing, releasing_of, changed, committed}
use Rattle.px_state.specs.Outcome.{CoreOutcome}
use Rattle.px_state.specs.Out.{on_way, inputs_past, next_for, past}
use Rattle.px_core.specs.Connecting.{is_full, joined, connected}
use Rattle.px_core.specs.Consistency.{IsConsistent, IsStep}
use Rattle.px_core.specs.Indexed.{own_connection, origin_of, GivesNoneAgain}
use Rattle.px_core.specs.Lawful.{Lawful, AreLawfulOwing, owed_after}
use Rattle.px_core.specs.Parcels.{Brought, given_in}
use Rattle.px_core.specs.Step.{Step, connect, frame, broken, close, cut, sweep, notice, out, answer_of, stepped, stepped_by}
use Rattle.px_core.proofs.ListLaws.{all_change, all_drop, all_push, all_weaken}
use Rattle.px_core.proofs.AnswerLaws.{IsLawful}
use Rattle.px_core.proofs.ArrivalLaws.{IsArrival, arrival_committed}
use Rattle.px_core.proofs.StepLaws.{answer_sound, step_keeps}

-- ---- clients of which something holds

all_change_client : (Q : Client → Type 0) (q : Client → Bool) (f : Client → Client) → ((c : Client) → Q c → Q (f c)) → (cs : List Client) → AllByRecursion Q cs → AllByRecursion Q (change_client q f cs)
all_change_client Q q f k [] h = tt
all_change_client Q q f k (c ∷ cs) h = cond_both (q c) (f c ∷ cs) (c ∷ change_client q f cs) (AllByRecursion Q) (λ e. (k c h.0, h.1)) (λ e. (h.0, all_change_client Q q f k cs h.1))

all_without : (Q : Client → Type 0) (q : Client → Bool) (cs : List Client) → AllByRecursion Q cs → AllByRecursion Q (without_first q cs)
all_without Q q [] h = tt
all_without Q q (c ∷ cs) h = cond_both (q c) cs (c ∷ without_first q cs) (AllByRecursion Q) (λ e. h.1) (λ e. (h.0, all_without Q q cs h.1))

-- each of a list is in it
each_contained : {A B : Type 0} (g : A → B) (xs : List A) → AllByRecursion (λ x. Contains (map g xs) (g x)) xs
each_contained g [] = tt
each_contained g (x ∷ xs) =
    (Contains-get_or (g x ∷ map g xs) 0 (g x) (omega arith), all_weaken (λ y. Contains (map g xs) (g y)) (λ y. Contains (g x ∷ map g xs) (g y)) (λ y c. Contains-append_right (g x ∷ []) (map g xs) (g y) c) xs (each_contained g xs))

-- ---- what was there by then, of which `clients_then` and `inputs_then` indices were given

module _ (clients_then inputs_then : ℕ) (clients_there : List (ℕ × ℕ)) (inputs_there : List (ℕ × ℕ × ℕ × ℕ)) where
  abbrev WasClient : Client → Type 0
  WasClient c = c.index < clients_then → Contains clients_there (own_connection c)

  abbrev WasInput : Input → Type 0
  WasInput x = x.index.0 < inputs_then → Contains inputs_there (origin_of x)

  pub record WereThere (clients : List Client) (clients_made : ℕ) (inputs : List Input) (inputs_made : ℕ) : Type 0 where
    pub old_clients : AllByRecursion WasClient clients
    pub more_clients : clients_then ≤ clients_made
    pub old_inputs : AllByRecursion WasInput inputs
    pub more_inputs : inputs_then ≤ inputs_made

  module _ {P : Type 0} where
    abbrev IsAfter : State P → Type 0
    IsAfter state = WereThere state.names.clients state.clients_made state.inputs state.inputs_made

    with_clients : (state : State P) (clients : List Client) → IsAfter state → AllByRecursion WasClient clients → WereThere clients state.clients_made state.inputs state.inputs_made
    with_clients state clients h old = record { old_clients = old; more_clients = h.more_clients; old_inputs = h.old_inputs; more_inputs = h.more_inputs }

    with_inputs : (state : State P) (inputs : List Input) → IsAfter state → AllByRecursion WasInput inputs → WereThere state.names.clients state.clients_made inputs state.inputs_made
    with_inputs state inputs h old = record { old_clients = h.old_clients; more_clients = h.more_clients; old_inputs = old; more_inputs = h.more_inputs }

    -- an input changes, but neither its index nor what it was made for
    one_after : (index : InputId) (f : Input → Input) → ((x : Input) → WasInput x → WasInput (f x)) → (state : State P) → IsAfter state → WereThere state.names.clients state.clients_made (change_first (has_index index) f state.inputs) state.inputs_made
    one_after index f k state h = with_inputs state (change_first (has_index index) f state.inputs) h (all_change WasInput (has_index index) f k state.inputs h.old_inputs)

    -- ---- changes

    defaulted_after : (sink : SinkId) (state : State P) → IsAfter state → WereThere (Naming.clients (defaulted sink state.names)) state.clients_made state.inputs state.inputs_made
    defaulted_after sink state h =
        cond_both (nat_lt sink.0 (length state.names.sinks)) (record state.names { fallback = sink }) state.names (λ (names : Naming). WereThere names.clients state.clients_made state.inputs state.inputs_made)
        (λ e. h) (λ e. h)

    ending_after : (o : Option Input) (state : State P) → IsAfter state → IsAfter (ending_of o state)
    ending_after None state h = h
    ending_after (Some x) state h = by x.standing
      where
        by : (standing : Standing) → IsAfter (ending standing x state)
        by Settled = one_after x.index leaving (λ y k. k) state h
        by (Moving to) = one_after x.index leaving (λ y k. k) state h
        by Leaving = h

    departs_after : (to : SinkId) (o : Option Input) (state : State P) → IsAfter state → IsAfter (departs_of to o state)
    departs_after to None state h = h
    departs_after to (Some x) state h = by x.standing
      where
        by : (standing : Standing) → IsAfter (departs to standing x state)
        by Settled = one_after x.index (moving_to to) (λ y k. k) state h
        by (Moving on) = h
        by Leaving = h

    arrives_after : (o : Option Input) (m : Msg P) (state : State P) → IsAfter state → IsAfter (arrives_of o m state)
    arrives_after None m state h = h
    arrives_after (Some x) m state h = by x.standing
      where
        by : (standing : Standing) → IsAfter (arrives standing x m state)
        by Settled = h
        by (Moving to) = one_after x.index (arrived_at to) (λ y k. k) state h
        by Leaving = h

    released_after : (o : Option Input) (state : State P) → IsAfter state → IsAfter (releasing_of o state)
    released_after None state h = h
    released_after (Some x) state h = by (find (is_of x.index) state.delayed)
      where
        by : (o : Option (Delayed P)) → IsAfter (releasing x o state)
        by None = h
        by (Some d) = h

    noted_after : (index : InputId) (m : Msg P) (state : State P) → IsAfter state → WereThere state.names.clients state.clients_made (inputs_noted index m state.inputs) state.inputs_made
    noted_after index (New n) state h = h
    noted_after index (Attach input parcel feed factors) state h = h
    noted_after index (Detach input) state h = h
    noted_after index (Write input seek offset frames bytes) state h = h
    noted_after index (Cork input on) state h = h
    noted_after index (Flush input) state h = h
    noted_after index (Trigger input) state h = h
    noted_after index (Prebuf input) state h = h
    noted_after index (Drain input tag) state h = h
    noted_after index (Attr input attr) state h = one_after index (with_attr attr) (λ y k. k) state h
    noted_after index (Factors each) state h = h
    noted_after index (Query input tag) state h = h

    posted_after : (o : Option Input) (m : Msg P) (state : State P) → IsAfter state → IsAfter (posting_if_there o m state)
    posted_after None m state h = h
    posted_after (Some x) m state h = by x.standing
      where
        by : (standing : Standing) → IsAfter (posting_to_input standing x m state)
        by Settled = noted_after x.index m state h
        by (Moving to) = noted_after x.index m state h
        by Leaving = h

    change_after : (state : State P) (c : Change P) → Lawful state c → IsAfter state → IsAfter (changed state c)
    change_after state (Authed conn version) lawful h = h
    change_after state (Named conn list) lawful h =
        with_clients state (change_client (is_on conn) (with_list list) state.names.clients) h (all_change_client WasClient (is_on conn) (with_list list) (λ c k. k) state.names.clients h.old_clients)
    change_after state (Masked conn mask) lawful h =
        with_clients state (change_client (is_on conn) (with_mask mask) state.names.clients) h (all_change_client WasClient (is_on conn) (with_mask mask) (λ c k. k) state.names.clients h.old_clients)
    change_after state (Defaulted sink) lawful h = defaulted_after sink state h
    change_after state (Made x m streams inputs) lawful h = record {
      old_clients = h.old_clients;
      more_clients = h.more_clients;
      old_inputs = all_push WasInput state.inputs x h.old_inputs (λ l. absurd (omega (arith, l, lawful.0.next, h.more_inputs)));
      more_inputs = omega (arith, lawful.1, h.more_inputs);
    }
    change_after state (Described index list) lawful h = h
    change_after state (Leaves index) lawful h = ending_after (input_of state.inputs index) state h
    change_after state (Moves index to) lawful h = departs_after to (input_of state.inputs index) state h
    change_after state (Arrives index m) lawful h = absurd lawful
    change_after state (Released index) lawful h = released_after (input_of state.inputs index) state h
    change_after state (Posted index m) lawful h = posted_after (input_of state.inputs index) m state h
    change_after state (Regrouped sink group m) lawful h = h
    change_after state (Asked w) lawful h = h
    change_after state (Answered w) lawful h = h
    change_after state (Gone index) lawful h = with_inputs state _ h (all_drop WasInput (has_index index) state.inputs h.old_inputs)
    change_after state (Ended conn reason fault at) lawful h = h
    change_after state (Forgotten conn) lawful h = with_clients state (without_first (is_on conn) state.names.clients) h (all_without WasClient (is_on conn) state.names.clients h.old_clients)

    changes_after : (owed : List SinkId) (changes : List (Change P)) (state : State P) → AreLawfulOwing owed state changes → IsAfter state → IsAfter (committed state changes)
    changes_after owed [] state lawful h = h
    changes_after owed (c ∷ changes) state lawful h = changes_after (owed_after state c owed) changes (changed state c) lawful.1 (change_after state c lawful.0 h)

    -- ---- steps

    connected_after : (o : Option Connection) (conn : ConnId) (state : State P) → IsAfter state → IsAfter (connected o conn state)
    connected_after (Some c) conn state h = h
    connected_after None conn state h =
        cond_both (is_full state) state (joined conn state) IsAfter
        (λ e. h)
        (λ e. record {
          old_clients = all_push WasClient state.names.clients (new_client conn state.clients_made) h.old_clients (λ l. absurd (omega (arith, l, h.more_clients)));
          more_clients = omega (arith, h.more_clients);
          old_inputs = h.old_inputs;
          more_inputs = h.more_inputs;
        })

    past_after : (m : Msg P) (state : State P) → IsAfter state → WereThere state.names.clients state.clients_made (inputs_past m state.inputs) state.inputs_made
    past_after (New n) state h = one_after n.input (on_way There) (λ y k. k) state h
    past_after (Attach input parcel feed factors) state h = one_after input (on_way There) (λ y k. k) state h
    past_after (Detach input) state h = one_after input (on_way Left) (λ y k. k) state h
    past_after (Write input seek offset frames bytes) state h = h
    past_after (Cork input on) state h = h
    past_after (Flush input) state h = h
    past_after (Trigger input) state h = h
    past_after (Prebuf input) state h = h
    past_after (Drain input tag) state h = h
    past_after (Attr input attr) state h = h
    past_after (Factors each) state h = h
    past_after (Query input tag) state h = h

    out_after : (o : Option (Msg P)) (sink : SinkId) (state : State P) → IsAfter state → IsAfter (past o sink state)
    out_after None sink state h = h
    out_after (Some m) sink state h = past_after m state h

    arrival_after : (spec_of : P → SampleSpec) (state : State P) (outcome : CoreOutcome P) (given : List (Brought P)) → IsArrival spec_of state outcome given → IsAfter state → IsAfter (committed state outcome.changes)
    arrival_after spec_of state outcome given a h =
        subst IsAfter (sym (arrival_committed spec_of state outcome given a))
        (changes_after a.owed a.behind a.after a.lawful (subst IsAfter a.arrives (arrives_after (input_of state.inputs a.index) a.message state h)))

    answer_after : (spec_of : P → SampleSpec) (state : State P) (s : Step P) → IsStep s → IsConsistent spec_of state → IsAfter state → IsAfter (committed state (OutcomeParts.changes (answer_of spec_of state s)))
    answer_after spec_of state s is consistent h = by (answer_sound spec_of state s is consistent)
      where
        by : IsLawful state (answer_of spec_of state s) ⊎ IsArrival spec_of state (answer_of spec_of state s) (given_in s) → IsAfter (committed state (OutcomeParts.changes (answer_of spec_of state s)))
        by (inl lawful) = changes_after [] (OutcomeParts.changes (answer_of spec_of state s)) state lawful h
        by (inr a) = arrival_after spec_of state (answer_of spec_of state s) (given_in s) a h

    step_after : (spec_of : P → SampleSpec) (state : State P) (s : Step P) → IsStep s → IsConsistent spec_of state → IsAfter state → IsAfter (stepped spec_of state s)
    step_after spec_of state (connect conn) is consistent h = connected_after (connection_of state.connections conn) conn state h
    step_after spec_of state (frame conn f) is consistent h = answer_after spec_of state (frame conn f) is consistent h
    step_after spec_of state (broken conn fault at) is consistent h = answer_after spec_of state (broken conn fault at) is consistent h
    step_after spec_of state (close conn) is consistent h = answer_after spec_of state (close conn) is consistent h
    step_after spec_of state (cut conn) is consistent h = answer_after spec_of state (cut conn) is consistent h
    step_after spec_of state sweep is consistent h = answer_after spec_of state sweep is consistent h
    step_after spec_of state (notice sink n) is consistent h = answer_after spec_of state (notice sink n) is consistent h
    step_after spec_of state (out sink) is consistent h = out_after (next_for state sink) sink state h

    pub steps_after : (spec_of : P → SampleSpec) (state : State P) (steps : List (Step P)) → AllByRecursion IsStep steps → IsConsistent spec_of state → IsAfter state → IsAfter (stepped_by spec_of state steps)
    steps_after spec_of state [] is consistent h = h
    steps_after spec_of state (s ∷ steps) is consistent h =
        steps_after spec_of (stepped spec_of state s) steps is.1 (step_keeps spec_of state s is.0 consistent) (step_after spec_of state s is.0 consistent h)

-- ---- none is given again

pub none_again : {P : Type 0} (spec_of : P → SampleSpec) (state : State P) (steps : List (Step P)) → AllByRecursion IsStep steps → IsConsistent spec_of state → GivesNoneAgain state (stepped_by spec_of state steps)
none_again {P} spec_of state steps is consistent =
    let clients_there : List (ℕ × ℕ) = map own_connection state.names.clients in
    let inputs_there : List (ℕ × ℕ × ℕ × ℕ) = map origin_of state.inputs in
    let now : WereThere state.clients_made state.inputs_made clients_there inputs_there state.names.clients state.clients_made state.inputs state.inputs_made = record {
      old_clients = all_weaken (λ c. Contains clients_there (own_connection c)) (WasClient state.clients_made state.inputs_made clients_there inputs_there) (λ c k l. k) state.names.clients (each_contained own_connection state.names.clients);
      more_clients = omega arith;
      old_inputs = all_weaken (λ x. Contains inputs_there (origin_of x)) (WasInput state.clients_made state.inputs_made clients_there inputs_there) (λ x k l. k) state.inputs (each_contained origin_of state.inputs);
      more_inputs = omega arith;
    } in
    let after = steps_after state.clients_made state.inputs_made clients_there inputs_there spec_of state steps is consistent now in
    record { clients = after.old_clients; inputs = after.old_inputs; counts = (after.more_clients, after.more_inputs) }
