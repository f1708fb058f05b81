-- Each change keeps the indices of clients and streams as they are given, and so does each step.
use Rattle.std.proofs.Common.{◌≡◌, ◌⊎◌, inl, inr, ℕ, ◌+◌, List, [], ◌∷◌, ◌++◌, map, Option, Some, None, Bool, true, false, refl, ap, sym, subst, ◌∙◌, cond}
use Rattle.std.specs.Prelude.{◌&&◌, not, nat_eq, nat_lt, filter, length, IsSome, IfSome, MatchOption}
use Rattle.std.specs.List.{AllByRecursion, find}
use Rattle.std.proofs.lemmas.Bool.{false≢true, cond_both, eqb-true, eq-eqb}
use Rattle.std.proofs.lemmas.Option.{same_Some}
use Rattle.std.proofs.lemmas.List.{map-append, append-nil}
use Rattle.px_types.specs.declared.ids.ConnId.{ConnId}
use Rattle.px_types.specs.declared.ids.InputId.{InputId}
use Rattle.px_types.specs.declared.ids.SinkId.{SinkId}
use Rattle.px_names.specs.declared.client.Client.{Client}
use Rattle.px_names.specs.Names.{Naming}
use Rattle.px_names.specs.Clients.{is_on, change_first as change_client, without_first, new_client, with_list, with_mask}
use Rattle.px_model.specs.Frame.{SampleSpec}
use Rattle.px_msg.specs.declared.message.Msg.{Msg}
use Rattle.px_msg.specs.declared.message.Msg.TheVariants.{New, Attach, Detach, Write, Cork, Flush, Trigger, Prebuf, Drain, Attr, Factors, Query}
use Rattle.px_outcome.specs.declared.change.Change.TheVariants.{Authed, Named, Masked, Defaulted, Made, Described, Leaves, Moves, Arrives, Released, Posted, Regrouped, Asked, Answered, Gone, Ended, Forgotten}
use Rattle.px_outcome.specs.declared.input.Connection.{Connection}
use Rattle.px_outcome.specs.declared.input.Input.{Input}
use Rattle.px_outcome.specs.declared.input.Way.{Way}
use Rattle.px_outcome.specs.declared.input.Way.TheVariants.{There, Left}
use Rattle.px_outcome.specs.declared.input.Standing.{Standing}
use Rattle.px_outcome.specs.declared.input.Standing.TheVariants.{Settled, Moving, Leaving}
use Rattle.px_outcome.specs.Outcome.{OutcomeParts}
use Rattle.px_state.specs.declared.delayed.Delayed.{Delayed}
use Rattle.px_state.specs.Delayed.{is_of}
use Rattle.px_state.specs.State.{State, has_number, connection_of, has_index, input_of, is_leaving, goes_on, is_from}
use Rattle.px_state.specs.Change.{Change, change_first, drop_first, authed, marked, with_streams, leaving, with_attr, moving_to, arrived_at, inputs_noted, defaulted, ending, ending_of, posting_to_input, posting_if_there, departs, departs_of, arrives, arrives_of, releasing, releasing_of, changed, committed}
use Rattle.px_state.specs.Outcome.{CoreOutcome}
use Rattle.px_state.specs.Out.{on_way, inputs_past, next_for, past}
use Rattle.px_core.specs.Connecting.{is_full, new_connection, joined, connected}
use Rattle.px_core.specs.Consistency.{IsConsistent, IsStep}
use Rattle.px_core.specs.Indexed.{NamesClient, AreGiven, own_client, own_connection, indices_of, streams_of, next_stream, IsNextStream, AreIndexed, IsIndexed}
use Rattle.px_core.specs.Lawful.{HasLeft, Lawful, AreLawfulOwing, owed_after}
use Rattle.px_core.specs.Parcels.{Brought, given_in}
use Rattle.px_core.specs.Step.{Step, connect, frame, broken, close, cut, sweep, notice, out, answer_of, stepped, stepped_by}
use Rattle.px_core.proofs.ListLaws.{all_weaken, all_push, all_change, all_change_found, all_drop, same_passed, same_left}
use Rattle.px_core.proofs.VerbLaws.{by_own}
use Rattle.px_core.proofs.AnswerLaws.{IsLawful}
use Rattle.px_core.proofs.ArrivalLaws.{IsArrival, arrival_committed}
use Rattle.px_core.proofs.GivenLaws.{has_change, has_joined, forgotten_named, part_given, given_more, next_change, next_counted, next_other, next_left, next_joined, map_change, map_change_client, left_paired, left_indices, off, streams_left, streams_same, streams_pushed}
use Rattle.px_core.proofs.StepLaws.{answer_sound, step_keeps}

-- ---- parts of the state change

module _ (cs : List Connection) (clients : List Client) (made : ℕ) (inputs : List Input) (h : AreIndexed cs clients made inputs) where
  connection_indexed : (n : ConnId) (f : Connection → Connection) → ((c : Connection) → (f c).conn.0 ≡ c.conn.0) → ((c : Connection) → own_client (f c) ≡ own_client c) → ((c : Connection) → (f c).streams ≡ c.streams) → AreIndexed (change_first (has_number n) f cs) clients made inputs
  connection_indexed n f number client streams = record {
    clients_given = h.clients_given;
    paired = map_change (has_number n) f own_client client cs ∙ h.paired;
    streams_given = λ conn. subst (λ next. AreGiven next (streams_of inputs conn)) (sym (next_change n f number streams conn cs)) (h.streams_given conn);
    clients_named = all_weaken (NamesClient cs) (NamesClient (change_first (has_number n) f cs))
        (λ x k live. has_change (λ c. x.client ≡ Connection.client c) n f number (λ c e. e ∙ sym (ap (λ (p : ℕ × ℕ). p.1) (client c))) x.conn cs (k live)) inputs h.clients_named;
  }

  client_indexed : (n : ConnId) (f : Client → Client) → ((c : Client) → (f c).index ≡ c.index) → ((c : Client) → own_connection (f c) ≡ own_connection c) → AreIndexed cs (change_client (is_on n) f clients) made inputs
  client_indexed n f index connection = record {
    clients_given = subst (AreGiven made) (sym (map_change_client (is_on n) f (λ c. Client.index c) index clients)) h.clients_given;
    paired = h.paired ∙ sym (map_change_client (is_on n) f own_connection connection clients);
    streams_given = h.streams_given;
    clients_named = h.clients_named;
  }

  inputs_indexed : (after : List Input) → ((conn : ConnId) → streams_of after conn ≡ streams_of inputs conn) → AllByRecursion (NamesClient cs) after → AreIndexed cs clients made after
  inputs_indexed after same named = record {
    clients_given = h.clients_given;
    paired = h.paired;
    streams_given = λ conn. subst (AreGiven (next_stream (connection_of cs conn))) (sym (same conn)) (h.streams_given conn);
    clients_named = named;
  }

  left_indexed : (q : Input → Bool) → AreIndexed cs clients made (change_first q leaving inputs)
  left_indexed q = record {
    clients_given = h.clients_given;
    paired = h.paired;
    streams_given = λ conn. part_given (next_stream (connection_of cs conn)) (streams_of (change_first q leaving inputs) conn) (streams_of inputs conn) (streams_left q conn inputs) (h.streams_given conn);
    clients_named = all_change (NamesClient cs) q leaving (λ x k live. absurd (false≢true live)) inputs h.clients_named;
  }

  -- the connection goes, once none of its streams is live
  forgotten_indexed : (n : ConnId) → filter (is_from n) inputs ≡ [] → AreIndexed (drop_first (has_number n) cs) (without_first (is_on n) clients) made inputs
  forgotten_indexed n none = record {
    clients_given = part_given made (indices_of (without_first (is_on n) clients)) (indices_of clients) (left_indices (is_on n) clients) h.clients_given;
    paired = left_paired n cs clients h.paired;
    streams_given = λ conn. by conn (nat_eq n.0 conn.0) refl;
    clients_named = forgotten_named n cs inputs h.clients_named none;
  }
    where
      own : AreGiven (next_stream (connection_of (drop_first (has_number n) cs) n)) (streams_of inputs n)
      own = subst (λ (ys : List Input). AreGiven (next_stream (connection_of (drop_first (has_number n) cs) n)) (map (λ y. Input.stream y) ys)) (sym none) (record { rising = tt; below = tt })

      by : (conn : ConnId) (b : Bool) → nat_eq n.0 conn.0 ≡ b → AreGiven (next_stream (connection_of (drop_first (has_number n) cs) conn)) (streams_of inputs conn)
      by conn true e = subst (λ i. AreGiven (next_stream (connection_of (drop_first (has_number n) cs) (record { 0 = i }))) (streams_of inputs (record { 0 = i }))) (eqb-true n.0 conn.0 e) own
      by conn false e = subst (λ (o : Option Connection). AreGiven (next_stream o) (streams_of inputs conn)) (sym (next_left n conn e cs)) (h.streams_given conn)

  joined_indexed : (n : ConnId) → AreIndexed (cs ++ new_connection n made ∷ []) (clients ++ new_client n made ∷ []) (made + 1) inputs
  joined_indexed n = record {
    clients_given = subst (AreGiven (made + 1)) (sym (map-append (λ c. Client.index c) clients (new_client n made ∷ []))) (given_more made (indices_of clients) h.clients_given);
    paired = map-append own_client cs (new_connection n made ∷ [])
        ∙ ap (λ (pairs : List (ℕ × ℕ)). pairs ++ (n.0, made) ∷ []) h.paired
        ∙ sym (map-append own_connection clients (new_client n made ∷ []));
    streams_given = λ conn. subst (λ next. AreGiven next (streams_of inputs conn)) (sym (next_joined n made conn cs)) (h.streams_given conn);
    clients_named = all_weaken (NamesClient cs) (NamesClient (cs ++ new_connection n made ∷ [])) (λ x k live. has_joined (λ c. x.client ≡ Connection.client c) (new_connection n made) x.conn cs (k live)) inputs h.clients_named;
  }

  -- one more stream
  made_indexed : (x : Input) (streams : ℕ) → goes_on x ≡ true → IsNextStream cs x streams → AreIndexed (change_first (has_number x.conn) (with_streams streams) cs) clients made (inputs ++ x ∷ [])
  made_indexed x streams live new = record {
    clients_given = h.clients_given;
    paired = map_change (has_number x.conn) (with_streams streams) own_client (λ c. refl) cs ∙ h.paired;
    streams_given = λ conn. by conn (nat_eq x.conn.0 conn.0) refl;
    clients_named = all_push (NamesClient counted_cs) inputs x
        (all_weaken (NamesClient cs) (NamesClient counted_cs) (λ y k on. has_change (λ c. y.client ≡ Connection.client c) x.conn (with_streams streams) (λ c. refl) (λ c e. e) y.conn cs (k on)) inputs h.clients_named)
        (λ on. has_change (λ c. x.client ≡ Connection.client c) x.conn (with_streams streams) (λ c. refl) (λ c e. e) x.conn cs new.client);
  }
    where
      counted_cs : List Connection
      counted_cs = change_first (has_number x.conn) (with_streams streams) cs

      counted : (o : Option Connection) → MatchOption o ⊥ (λ c. x.stream ≡ c.streams) → IsSome o × (x.stream ≡ next_stream o)
      counted None own = absurd own
      counted (Some c) own = (refl, own)

      own : IsSome (connection_of cs x.conn) × (x.stream ≡ next_stream (connection_of cs x.conn))
      own = counted (connection_of cs x.conn) new.next

      more : streams_of (inputs ++ x ∷ []) x.conn ≡ streams_of inputs x.conn ++ x.stream ∷ []
      more =
          streams_pushed inputs x x.conn
          ∙ ap (λ (b : Bool). streams_of inputs x.conn ++ map (λ y. Input.stream y) (cond b (x ∷ []) [])) (ap (λ b. b && goes_on x) (eq-eqb x.conn.0 x.conn.0 refl) ∙ live)

      now : next_stream (connection_of (change_first (has_number x.conn) (with_streams streams) cs) x.conn) ≡ x.stream + 1
      now = next_counted x.conn streams cs own.0 ∙ new.counted

      its : AreGiven (next_stream (connection_of (change_first (has_number x.conn) (with_streams streams) cs) x.conn)) (streams_of (inputs ++ x ∷ []) x.conn)
      its =
          subst (λ next. AreGiven next (streams_of (inputs ++ x ∷ []) x.conn)) (sym now)
          (subst (AreGiven (x.stream + 1)) (sym more)
          (given_more x.stream (streams_of inputs x.conn) (subst (λ next. AreGiven next (streams_of inputs x.conn)) (sym own.1) (h.streams_given x.conn))))

      none : (conn : ConnId) → nat_eq x.conn.0 conn.0 ≡ false → streams_of (inputs ++ x ∷ []) conn ≡ streams_of inputs conn ++ []
      none conn e =
          streams_pushed inputs x conn
          ∙ ap (λ (b : Bool). streams_of inputs conn ++ map (λ y. Input.stream y) (cond b (x ∷ []) [])) (ap (λ b. b && goes_on x) e)

      by : (conn : ConnId) (b : Bool) → nat_eq x.conn.0 conn.0 ≡ b → AreGiven (next_stream (connection_of (change_first (has_number x.conn) (with_streams streams) cs) conn)) (streams_of (inputs ++ x ∷ []) conn)
      by conn true e = subst (λ i. AreGiven (next_stream (connection_of (change_first (has_number x.conn) (with_streams streams) cs) (record { 0 = i }))) (streams_of (inputs ++ x ∷ []) (record { 0 = i }))) (eqb-true x.conn.0 conn.0 e) its
      by conn false e =
          subst (λ next. AreGiven next (streams_of (inputs ++ x ∷ []) conn)) (sym (next_other x.conn conn streams e cs))
          (subst (AreGiven (next_stream (connection_of cs conn))) (sym (none conn e ∙ append-nil (streams_of inputs conn))) (h.streams_given conn))

-- ---- the streams of a connection, where an ended input is removed, and where a message is handed out

gone_streams : (inputs : List Input) (index : InputId) → IfSome (input_of inputs index) HasLeft → (conn : ConnId) → streams_of (drop_first (has_index index) inputs) conn ≡ streams_of inputs conn
gone_streams inputs index left conn =
    ap (λ (ys : List Input). map (λ y. Input.stream y) ys)
    (same_left (is_from conn) (has_index index) inputs
    (λ y found.
    let it : HasLeft y = subst (λ (o : Option Input). IfSome o HasLeft) found left in
    ap (λ standing. nat_eq y.conn.0 conn.0 && not (is_leaving standing)) it.standing ∙ off (nat_eq y.conn.0 conn.0)))

way_streams : (index : InputId) (way : Way) (inputs : List Input) (conn : ConnId) → streams_of (change_first (has_index index) (on_way way) inputs) conn ≡ streams_of inputs conn
way_streams index way inputs conn = same_passed (is_from conn) (has_index index) (on_way way) (λ y. Input.stream y) inputs (λ y found. refl) (λ y. refl)

-- ---- changes

module _ {P : Type 0} where
  defaulted_indexed : (sink : SinkId) (state : State P) → IsIndexed state → AreIndexed state.connections (Naming.clients (defaulted sink state.names)) state.clients_made state.inputs
  defaulted_indexed sink state h =
      cond_both (nat_lt sink.0 (length state.names.sinks)) (record state.names { fallback = sink }) state.names (λ (names : Naming). AreIndexed state.connections names.clients state.clients_made state.inputs)
      (λ e. h) (λ e. h)

  ending_indexed : (o : Option Input) (state : State P) → IsIndexed state → IsIndexed (ending_of o state)
  ending_indexed None state h = h
  ending_indexed (Some x) state h = by x.standing
    where
      ended : AreIndexed state.connections state.names.clients state.clients_made (change_first (has_index x.index) leaving state.inputs)
      ended = left_indexed state.connections state.names.clients state.clients_made state.inputs h (has_index x.index)

      by : (standing : Standing) → IsIndexed (ending standing x state)
      by Settled = ended
      by (Moving to) = ended
      by Leaving = h

  same_indexed : (x : Input) (f : Input → Input) (state : State P) → input_of state.inputs x.index ≡ Some x → ((conn : ConnId) → is_from conn (f x) ≡ is_from conn x) → ((y : Input) → (f y).stream ≡ y.stream)
      → ((y : Input) → input_of state.inputs x.index ≡ Some y → NamesClient state.connections y → NamesClient state.connections (f y)) → IsIndexed state
      → AreIndexed state.connections state.names.clients state.clients_made (change_first (has_index x.index) f state.inputs)
  same_indexed x f state here live stream named h =
      inputs_indexed state.connections state.names.clients state.clients_made state.inputs h (change_first (has_index x.index) f state.inputs) (streams_same x f state.inputs here live stream)
      (all_change_found (NamesClient state.connections) (has_index x.index) f state.inputs named h.clients_named)

  departs_indexed : (to : SinkId) (o : Option Input) (index : InputId) (state : State P) → input_of state.inputs index ≡ o → IsIndexed state → IsIndexed (departs_of to o state)
  departs_indexed to None index state e h = h
  departs_indexed to (Some x) index state e h = by x.standing refl
    where
      here : input_of state.inputs x.index ≡ Some x
      here = by_own state.inputs index x e

      by : (standing : Standing) → x.standing ≡ standing → IsIndexed (departs to standing x state)
      by Settled is = same_indexed x (moving_to to) state here (λ conn. ap (λ standing. nat_eq x.conn.0 conn.0 && not (is_leaving standing)) (sym is)) (λ y. refl) (λ y found k on. k (ap (λ (z : Input). goes_on z) (same_Some y x (sym found ∙ here)) ∙ ap (λ standing. not (is_leaving standing)) is)) h
      by (Moving on) is = h
      by Leaving is = h

  arrives_indexed : (o : Option Input) (index : InputId) (m : Msg P) (state : State P) → input_of state.inputs index ≡ o → IsIndexed state → IsIndexed (arrives_of o m state)
  arrives_indexed None index m state e h = h
  arrives_indexed (Some x) index m state e h = by x.standing refl
    where
      here : input_of state.inputs x.index ≡ Some x
      here = by_own state.inputs index x e

      by : (standing : Standing) → x.standing ≡ standing → IsIndexed (arrives standing x m state)
      by Settled is = h
      by (Moving to) is = same_indexed x (arrived_at to) state here (λ conn. ap (λ standing. nat_eq x.conn.0 conn.0 && not (is_leaving standing)) (sym is)) (λ y. refl) (λ y found k on. k (ap (λ (z : Input). goes_on z) (same_Some y x (sym found ∙ here)) ∙ ap (λ standing. not (is_leaving standing)) is)) h
      by Leaving is = h

  released_indexed : (o : Option Input) (state : State P) → IsIndexed state → IsIndexed (releasing_of o state)
  released_indexed None state h = h
  released_indexed (Some x) state h = by (find (is_of x.index) state.delayed)
    where
      by : (o : Option (Delayed P)) → IsIndexed (releasing x o state)
      by None = h
      by (Some d) = h

  noted_streams : (index : InputId) (m : Msg P) (inputs : List Input) (conn : ConnId) → streams_of (inputs_noted index m inputs) conn ≡ streams_of inputs conn
  noted_streams index (New n) inputs conn = refl
  noted_streams index (Attach input parcel feed factors) inputs conn = refl
  noted_streams index (Detach input) inputs conn = refl
  noted_streams index (Write input seek offset frames bytes) inputs conn = refl
  noted_streams index (Cork input on) inputs conn = refl
  noted_streams index (Flush input) inputs conn = refl
  noted_streams index (Trigger input) inputs conn = refl
  noted_streams index (Prebuf input) inputs conn = refl
  noted_streams index (Drain input tag) inputs conn = refl
  noted_streams index (Attr input attr) inputs conn = same_passed (is_from conn) (has_index index) (with_attr attr) (λ y. Input.stream y) inputs (λ y found. refl) (λ y. refl)
  noted_streams index (Factors each) inputs conn = refl
  noted_streams index (Query input tag) inputs conn = refl

  noted_named : (index : InputId) (m : Msg P) (cs : List Connection) (inputs : List Input) → AllByRecursion (NamesClient cs) inputs → AllByRecursion (NamesClient cs) (inputs_noted index m inputs)
  noted_named index (New n) cs inputs h = h
  noted_named index (Attach input parcel feed factors) cs inputs h = h
  noted_named index (Detach input) cs inputs h = h
  noted_named index (Write input seek offset frames bytes) cs inputs h = h
  noted_named index (Cork input on) cs inputs h = h
  noted_named index (Flush input) cs inputs h = h
  noted_named index (Trigger input) cs inputs h = h
  noted_named index (Prebuf input) cs inputs h = h
  noted_named index (Drain input tag) cs inputs h = h
  noted_named index (Attr input attr) cs inputs h = all_change (NamesClient cs) (has_index index) (with_attr attr) (λ y k. k) inputs h
  noted_named index (Factors each) cs inputs h = h
  noted_named index (Query input tag) cs inputs h = h

  posted_indexed : (o : Option Input) (m : Msg P) (state : State P) → IsIndexed state → IsIndexed (posting_if_there o m state)
  posted_indexed None m state h = h
  posted_indexed (Some x) m state h = by x.standing
    where
      noted : AreIndexed state.connections state.names.clients state.clients_made (inputs_noted x.index m state.inputs)
      noted = inputs_indexed state.connections state.names.clients state.clients_made state.inputs h (inputs_noted x.index m state.inputs) (noted_streams x.index m state.inputs) (noted_named x.index m state.connections state.inputs h.clients_named)

      by : (standing : Standing) → IsIndexed (posting_to_input standing x m state)
      by Settled = noted
      by (Moving to) = noted
      by Leaving = h

  change_indexed : (state : State P) (c : Change P) → Lawful state c → IsIndexed state → IsIndexed (changed state c)
  change_indexed state (Authed conn version) lawful h = connection_indexed state.connections state.names.clients state.clients_made state.inputs h conn (authed version) (λ c. refl) (λ c. refl) (λ c. refl)
  change_indexed state (Named conn list) lawful h = client_indexed state.connections state.names.clients state.clients_made state.inputs h conn (with_list list) (λ c. refl) (λ c. refl)
  change_indexed state (Masked conn mask) lawful h = client_indexed state.connections state.names.clients state.clients_made state.inputs h conn (with_mask mask) (λ c. refl) (λ c. refl)
  change_indexed state (Defaulted sink) lawful h = defaulted_indexed sink state h
  change_indexed state (Made x m streams inputs) lawful h =
      made_indexed state.connections state.names.clients state.clients_made state.inputs h x streams (ap (λ standing. not (is_leaving standing)) lawful.0.standing) lawful.2
  change_indexed state (Described index list) lawful h = h
  change_indexed state (Leaves index) lawful h = ending_indexed (input_of state.inputs index) state h
  change_indexed state (Moves index to) lawful h = departs_indexed to (input_of state.inputs index) index state refl h
  change_indexed state (Arrives index m) lawful h = absurd lawful
  change_indexed state (Released index) lawful h = released_indexed (input_of state.inputs index) state h
  change_indexed state (Posted index m) lawful h = posted_indexed (input_of state.inputs index) m state h
  change_indexed state (Regrouped sink group m) lawful h = h
  change_indexed state (Asked w) lawful h = h
  change_indexed state (Answered w) lawful h = h
  change_indexed state (Gone index) lawful h =
      inputs_indexed state.connections state.names.clients state.clients_made state.inputs h (drop_first (has_index index) state.inputs) (gone_streams state.inputs index lawful) (all_drop (NamesClient state.connections) (has_index index) state.inputs h.clients_named)
  change_indexed state (Ended conn reason fault at) lawful h = connection_indexed state.connections state.names.clients state.clients_made state.inputs h conn marked (λ c. refl) (λ c. refl) (λ c. refl)
  change_indexed state (Forgotten conn) lawful h = forgotten_indexed state.connections state.names.clients state.clients_made state.inputs h conn lawful

  changes_indexed : (owed : List SinkId) (changes : List (Change P)) (state : State P) → AreLawfulOwing owed state changes → IsIndexed state → IsIndexed (committed state changes)
  changes_indexed owed [] state lawful h = h
  changes_indexed owed (c ∷ changes) state lawful h = changes_indexed (owed_after state c owed) changes (changed state c) lawful.1 (change_indexed state c lawful.0 h)

  -- ---- steps

  connected_indexed : (o : Option Connection) (conn : ConnId) (state : State P) → IsIndexed state → IsIndexed (connected o conn state)
  connected_indexed (Some c) conn state h = h
  connected_indexed None conn state h =
      cond_both (is_full state) state (joined conn state) IsIndexed (λ e. h) (λ e. joined_indexed state.connections state.names.clients state.clients_made state.inputs h conn)

  past_streams : (m : Msg P) (inputs : List Input) (conn : ConnId) → streams_of (inputs_past m inputs) conn ≡ streams_of inputs conn
  past_streams (New n) inputs conn = way_streams n.input There inputs conn
  past_streams (Attach input parcel feed factors) inputs conn = way_streams input There inputs conn
  past_streams (Detach input) inputs conn = way_streams input Left inputs conn
  past_streams (Write input seek offset frames bytes) inputs conn = refl
  past_streams (Cork input on) inputs conn = refl
  past_streams (Flush input) inputs conn = refl
  past_streams (Trigger input) inputs conn = refl
  past_streams (Prebuf input) inputs conn = refl
  past_streams (Drain input tag) inputs conn = refl
  past_streams (Attr input attr) inputs conn = refl
  past_streams (Factors each) inputs conn = refl
  past_streams (Query input tag) inputs conn = refl

  past_named : (m : Msg P) (cs : List Connection) (inputs : List Input) → AllByRecursion (NamesClient cs) inputs → AllByRecursion (NamesClient cs) (inputs_past m inputs)
  past_named (New n) cs inputs h = all_change (NamesClient cs) (has_index n.input) (on_way There) (λ y k. k) inputs h
  past_named (Attach input parcel feed factors) cs inputs h = all_change (NamesClient cs) (has_index input) (on_way There) (λ y k. k) inputs h
  past_named (Detach input) cs inputs h = all_change (NamesClient cs) (has_index input) (on_way Left) (λ y k. k) inputs h
  past_named (Write input seek offset frames bytes) cs inputs h = h
  past_named (Cork input on) cs inputs h = h
  past_named (Flush input) cs inputs h = h
  past_named (Trigger input) cs inputs h = h
  past_named (Prebuf input) cs inputs h = h
  past_named (Drain input tag) cs inputs h = h
  past_named (Attr input attr) cs inputs h = h
  past_named (Factors each) cs inputs h = h
  past_named (Query input tag) cs inputs h = h

  out_indexed : (o : Option (Msg P)) (sink : SinkId) (state : State P) → IsIndexed state → IsIndexed (past o sink state)
  out_indexed None sink state h = h
  out_indexed (Some m) sink state h = inputs_indexed state.connections state.names.clients state.clients_made state.inputs h (inputs_past m state.inputs) (past_streams m state.inputs) (past_named m state.connections state.inputs h.clients_named)

  arrival_indexed : (spec_of : P → SampleSpec) (state : State P) (outcome : CoreOutcome P) (given : List (Brought P)) → IsArrival spec_of state outcome given → IsIndexed state → IsIndexed (committed state outcome.changes)
  arrival_indexed spec_of state outcome given a h =
      subst IsIndexed (sym (arrival_committed spec_of state outcome given a))
      (changes_indexed a.owed a.behind a.after a.lawful (subst IsIndexed a.arrives (arrives_indexed (input_of state.inputs a.index) a.index a.message state refl h)))

  answer_indexed : (spec_of : P → SampleSpec) (state : State P) (s : Step P) → IsStep s → IsConsistent spec_of state → IsIndexed state → IsIndexed (committed state (OutcomeParts.changes (answer_of spec_of state s)))
  answer_indexed spec_of state s is consistent h = by (answer_sound spec_of state s is consistent)
    where
      by : IsLawful state (answer_of spec_of state s) ⊎ IsArrival spec_of state (answer_of spec_of state s) (given_in s) → IsIndexed (committed state (OutcomeParts.changes (answer_of spec_of state s)))
      by (inl lawful) = changes_indexed [] (OutcomeParts.changes (answer_of spec_of state s)) state lawful h
      by (inr a) = arrival_indexed spec_of state (answer_of spec_of state s) (given_in s) a h

  pub step_indexed : (spec_of : P → SampleSpec) (state : State P) (s : Step P) → IsStep s → IsConsistent spec_of state → IsIndexed state → IsIndexed (stepped spec_of state s)
  step_indexed spec_of state (connect conn) is consistent h = connected_indexed (connection_of state.connections conn) conn state h
  step_indexed spec_of state (frame conn f) is consistent h = answer_indexed spec_of state (frame conn f) is consistent h
  step_indexed spec_of state (broken conn fault at) is consistent h = answer_indexed spec_of state (broken conn fault at) is consistent h
  step_indexed spec_of state (close conn) is consistent h = answer_indexed spec_of state (close conn) is consistent h
  step_indexed spec_of state (cut conn) is consistent h = answer_indexed spec_of state (cut conn) is consistent h
  step_indexed spec_of state sweep is consistent h = answer_indexed spec_of state sweep is consistent h
  step_indexed spec_of state (notice sink n) is consistent h = answer_indexed spec_of state (notice sink n) is consistent h
  step_indexed spec_of state (out sink) is consistent h = out_indexed (next_for state sink) sink state h

  pub steps_indexed : (spec_of : P → SampleSpec) (state : State P) (steps : List (Step P)) → AllByRecursion IsStep steps → IsConsistent spec_of state → IsIndexed state → IsIndexed (stepped_by spec_of state steps)
  steps_indexed spec_of state [] is consistent h = h
  steps_indexed spec_of state (s ∷ steps) is consistent h =
      steps_indexed spec_of (stepped spec_of state s) steps is.1 (step_keeps spec_of state s is.0 consistent) (step_indexed spec_of state s is.0 consistent h)

-- ---- a new state

pub none_indexed : AreIndexed [] [] 0 []
none_indexed = record {
  clients_given = record { rising = tt; below = tt };
  paired = refl;
  streams_given = λ conn. record { rising = tt; below = tt };
  clients_named = tt;
}
