-- No stream waits for a sink but new ones, and those that notices gave up, each of its own input.
use Rattle.std.proofs.Common.{◌≡◌, ◌⊎◌, sym, subst, ℕ, zero, suc, ◌≤◌, arith, List, [], ◌∷◌, ◌++◌, Option, Some, None, inl, inr, refl}
use Rattle.std.specs.Prelude.{set, get_or, replicate, length, flat_map, nat_eq, IfSome}
use Rattle.std.specs.List.{AllByRecursion, find}
use Rattle.std.specs.Option.{option_to_list}
use Rattle.std.proofs.lemmas.Bool.{cond_both}
use Rattle.px_types.specs.declared.ids.ConnId.{ConnId}
use Rattle.px_types.specs.declared.ids.SinkId.{SinkId}
use Rattle.px_header.specs.declared.header.Header.{Header}
use Rattle.px_header.specs.declared.header.SinkSpec.{SinkSpec}
use Rattle.px_header.specs.HeaderRules.{IsHeader}
use Rattle.px_model.specs.Frame.{SampleSpec}
use Rattle.px_msg.specs.declared.message.Msg.{Msg}
use Rattle.px_msg.specs.declared.message.Msg.TheVariants.{New, Attach, Detach, Write, Cork, Flush, Trigger, Prebuf, Drain, Attr, Factors, Query}
use Rattle.px_outcome.specs.declared.change.Change.TheVariants.{Authed, Named, Masked, Defaulted, Made, Described, Leaves, Moves, Arrives, Released, Posted, Regrouped, Asked, Answered, Gone, Ended, Forgotten}
use Rattle.px_outcome.specs.declared.input.Connection.{Connection}
use Rattle.px_outcome.specs.declared.input.Input.{Input}
use Rattle.px_outcome.specs.declared.input.Standing.{Standing}
use Rattle.px_outcome.specs.declared.input.Standing.TheVariants.{Settled, Moving, Leaving}
use Rattle.px_state.specs.declared.delayed.Delayed.{Delayed}
use Rattle.px_state.specs.State.{State, new_state, connection_of, input_of}
use Rattle.px_state.specs.Change.{Change, with_streams, with_connection, posting, regrouping, ending, ending_of, posting_to_input, posting_if_there, departs, departs_of, releasing, releasing_of, changed, committed}
use Rattle.px_core.specs.Lawful.{is_of, Brings, Suits, AreFor, IsReleased, AreReleased, Lawful, AreLawfulOwing, owed_after}
use Rattle.px_outcome.specs.Outcome.{OutcomeParts}
use Rattle.px_state.specs.Outcome.{CoreOutcome}
use Rattle.px_core.specs.Connecting.{is_full, joined, connected}
use Rattle.px_state.specs.Out.{first_of, rest_of, waiting_for, next_for, past, handed_out}
use Rattle.px_core.specs.Consistency.{IsConsistent, IsStep}
use Rattle.px_core.specs.Parcels.{Brought, new_stream, given_in, Carries, Takes, AllCarry, IsAmong, IsNewOrAmong}
use Rattle.px_core.specs.Hearing.{posted_by_step, posted_by_steps}
use Rattle.px_core.specs.Step.{Step, connect, frame, broken, close, cut, sweep, notice, out, answer_of, stepped, stepped_by}
use Rattle.px_core.proofs.ListLaws.{all_push}
use Rattle.px_core.proofs.HandingLaws.{sink_there}
use Rattle.px_core.proofs.AnswerLaws.{IsLawful}
use Rattle.px_core.proofs.ArrivalLaws.{IsArrival, arrival_committed}
use Rattle.px_core.proofs.StepLaws.{answer_sound, step_keeps, new_keeps}

-- ---- lists

all_set : {A : Type 0} (Q : A → Type 0) (xs : List A) (i : ℕ) (y : A) → AllByRecursion Q xs → Q y → AllByRecursion Q (set xs i y)
all_set Q [] i y h k = tt
all_set Q (x ∷ xs) zero y h k = (k, h.1)
all_set Q (x ∷ xs) (suc i) y h k = (h.0, all_set Q xs i y h.1 k)

all_get : {A : Type 0} (Q : A → Type 0) (xs : List A) (i : ℕ) (d : A) → AllByRecursion Q xs → Q d → Q (get_or xs i d)
all_get Q [] i d h k = k
all_get Q (x ∷ xs) zero d h k = h.0
all_get Q (x ∷ xs) (suc i) d h k = all_get Q xs i d h.1 k

all_rest : {A : Type 0} (Q : A → Type 0) (xs : List A) → AllByRecursion Q xs → AllByRecursion Q (rest_of xs)
all_rest Q [] h = tt
all_rest Q (x ∷ xs) h = h.1

all_first : {A : Type 0} (Q : A → Type 0) (xs : List A) → AllByRecursion Q xs → AllByRecursion Q (option_to_list (first_of xs))
all_first Q [] h = tt
all_first Q (x ∷ xs) h = (h.0, tt)

all_join : {A : Type 0} (Q : A → Type 0) (xs ys : List A) → AllByRecursion Q xs → AllByRecursion Q ys → AllByRecursion Q (xs ++ ys)
all_join Q [] ys h k = k
all_join Q (x ∷ xs) ys h k = (h.0, all_join Q xs ys h.1 k)

module _ {P : Type 0} (whole : Brought P → Type 0) where
  -- every stream that is queued is such, and so is each new one from the next index on
  pub record AreWholeIn (posted : List (List (Msg P))) (made : ℕ) : Type 0 where
    pub carry : AllByRecursion (AllByRecursion (Carries whole)) posted
    pub unborn : (i : ℕ) → made ≤ i → whole (new_stream i)

  abbrev pub AreWhole : State P → Type 0
  AreWhole state = AreWholeIn state.posted state.inputs_made

  -- ---- messages of lawful changes

  brings_new : (made : ℕ) (x : Input) (s : SinkSpec) (m : Msg P) → x.index.0 ≡ made → ((i : ℕ) → made ≤ i → whole (new_stream i)) → Brings x s m → Carries whole m
  brings_new made x s (New n) next unborn b = (unborn n.input.0 (omega (arith, b.0, next)), tt)
  brings_new made x s (Attach input parcel feed factors) next unborn b = absurd b
  brings_new made x s (Detach input) next unborn b = tt
  brings_new made x s (Write input seek offset frames bytes) next unborn b = tt
  brings_new made x s (Cork input on) next unborn b = tt
  brings_new made x s (Flush input) next unborn b = tt
  brings_new made x s (Trigger input) next unborn b = tt
  brings_new made x s (Prebuf input) next unborn b = tt
  brings_new made x s (Drain input tag) next unborn b = tt
  brings_new made x s (Attr input attr) next unborn b = tt
  brings_new made x s (Factors each) next unborn b = tt
  brings_new made x s (Query input tag) next unborn b = tt

  suits_none : (x : Input) (m : Msg P) → Suits x m → Carries whole m
  suits_none x (New n) b = absurd b
  suits_none x (Attach input parcel feed factors) b = absurd b
  suits_none x (Detach input) b = tt
  suits_none x (Write input seek offset frames bytes) b = tt
  suits_none x (Cork input on) b = tt
  suits_none x (Flush input) b = tt
  suits_none x (Trigger input) b = tt
  suits_none x (Prebuf input) b = tt
  suits_none x (Drain input tag) b = tt
  suits_none x (Attr input attr) b = tt
  suits_none x (Factors each) b = tt
  suits_none x (Query input tag) b = tt

  factors_none : (s : SinkSpec) (m : Msg P) → AreFor s m → Carries whole m
  factors_none s (New n) b = absurd b
  factors_none s (Attach input parcel feed factors) b = absurd b
  factors_none s (Detach input) b = tt
  factors_none s (Write input seek offset frames bytes) b = tt
  factors_none s (Cork input on) b = tt
  factors_none s (Flush input) b = tt
  factors_none s (Trigger input) b = tt
  factors_none s (Prebuf input) b = tt
  factors_none s (Drain input tag) b = tt
  factors_none s (Attr input attr) b = tt
  factors_none s (Factors each) b = tt
  factors_none s (Query input tag) b = tt

  -- ---- changes

  posting_carries : (sink : ℕ) (m : Msg P) (state : State P) → Carries whole m → AreWhole state → AreWhole (posting sink m state)
  posting_carries sink m state c h = record {
    carry = all_set (AllByRecursion (Carries whole)) state.posted sink (get_or state.posted sink [] ++ m ∷ []) h.carry
        (all_push (Carries whole) (get_or state.posted sink []) m (all_get (AllByRecursion (Carries whole)) state.posted sink [] h.carry tt) c);
    unborn = h.unborn;
  }

  ending_carries : (o : Option Input) (state : State P) → AreWhole state → AreWhole (ending_of o state)
  ending_carries None state h = h
  ending_carries (Some x) state h = by x.standing
    where
      by : (standing : Standing) → AreWhole (ending standing x state)
      by Settled = posting_carries x.sink.0 (Detach x.index) state tt h
      by (Moving to) = h
      by Leaving = h

  posting_to_input_carries : (o : Option Input) (m : Msg P) (state : State P) → IfSome o (λ x. Suits x m) → AreWhole state → AreWhole (posting_if_there o m state)
  posting_to_input_carries None m state suits h = h
  posting_to_input_carries (Some x) m state suits h = by x.standing
    where
      by : (standing : Standing) → AreWhole (posting_to_input standing x m state)
      by Settled = posting_carries x.sink.0 m state (suits_none x m suits) h
      by (Moving to) = h
      by Leaving = h

  moved_carries : (to : SinkId) (o : Option Input) (state : State P) → AreWhole state → AreWhole (departs_of to o state)
  moved_carries to None state h = h
  moved_carries to (Some x) state h = by x.standing
    where
      by : (standing : Standing) → AreWhole (departs to standing x state)
      by Settled = posting_carries x.sink.0 (Detach x.index) state tt h
      by (Moving on) = h
      by Leaving = h

  released_carries : (o : Option Input) (state : State P) → IfSome o (AreReleased state.delayed) → AreWhole state → AreWhole (releasing_of o state)
  released_carries None state ok h = h
  released_carries (Some x) state ok h = by (find (is_of x.index) state.delayed) ok
    where
      by : (o : Option (Delayed P)) → IfSome o (IsReleased x) → AreWhole (releasing x o state)
      by None ok = h
      by (Some d) ok = posting_carries x.sink.0 d.message state (suits_none x d.message ok.suits) h

  change_carries : (state : State P) (c : Change P) → Lawful state c → AreWhole state → AreWhole (changed state c)
  change_carries state (Authed conn version) lawful h = h
  change_carries state (Named conn list) lawful h = h
  change_carries state (Masked conn mask) lawful h = h
  change_carries state (Defaulted sink) lawful h = h
  change_carries state (Made x m streams inputs) lawful h =
      let own = sink_there state.sinks x.sink.0 lawful.0.is.sink_there in
      let more : State P = record (with_connection x.conn (with_streams streams) state) { inputs = state.inputs ++ x ∷ []; inputs_made = inputs } in
      posting_carries x.sink.0 m more (brings_new state.inputs_made x own.0 m lawful.0.next h.unborn (lawful.0.brings own.0 own.1))
      (record { carry = h.carry; unborn = λ i l. h.unborn i (omega (arith, l, lawful.1)) })
  change_carries state (Described index list) lawful h = h
  change_carries state (Leaves index) lawful h = ending_carries (input_of state.inputs index) state h
  change_carries state (Moves index to) lawful h = moved_carries to (input_of state.inputs index) state h
  change_carries state (Arrives index m) lawful h = absurd lawful
  change_carries state (Released index) lawful h = released_carries (input_of state.inputs index) state lawful h
  change_carries state (Posted index m) lawful h = posting_to_input_carries (input_of state.inputs index) m state lawful h
  change_carries state (Regrouped sink group m) lawful h =
      let own = sink_there state.sinks sink.0 lawful.there in
      posting_carries sink.0 m (regrouping sink.0 group state) (factors_none own.0 m (lawful.factors own.0 own.1)) h
  change_carries state (Asked w) lawful h = h
  change_carries state (Answered w) lawful h = h
  change_carries state (Gone index) lawful h = h
  change_carries state (Ended conn reason fault at) lawful h = h
  change_carries state (Forgotten conn) lawful h = h

  changes_carry : (owed : List SinkId) (changes : List (Change P)) (state : State P) → AreLawfulOwing owed state changes → AreWhole state → AreWhole (committed state changes)
  changes_carry owed [] state lawful h = h
  changes_carry owed (c ∷ changes) state lawful h = changes_carry (owed_after state c owed) changes (changed state c) lawful.1 (change_carries state c lawful.0 h)

  -- ---- steps

  connected_carries : (o : Option Connection) (conn : ConnId) (state : State P) → AreWhole state → AreWhole (connected o conn state)
  connected_carries (Some c) conn state h = h
  connected_carries None conn state h = cond_both (is_full state) state (joined conn state) AreWhole (λ e. h) (λ e. h)

  out_carries : (sink : SinkId) (state : State P) → AreWhole state → AreWhole (handed_out sink state)
  out_carries sink state h = by (next_for state sink)
    where
      by : (o : Option (Msg P)) → AreWhole (past o sink state)
      by None = h
      by (Some m) = record {
        carry = all_set (AllByRecursion (Carries whole)) state.posted sink.0 (rest_of (waiting_for state sink)) h.carry
            (all_rest (Carries whole) (waiting_for state sink) (all_get (AllByRecursion (Carries whole)) state.posted sink.0 [] h.carry tt));
        unborn = h.unborn;
      }

  -- what arrives was given up
  arrival_carries : (spec_of : P → SampleSpec) (state : State P) (outcome : CoreOutcome P) (given : List (Brought P)) → IsArrival spec_of state outcome given → AllByRecursion whole given → AreWhole state → AreWhole (committed state outcome.changes)
  arrival_carries spec_of state outcome given a takes h =
      let posted = posting_carries a.to.0 a.message state (subst (AllByRecursion whole) a.carried takes) h in
      subst AreWhole (sym (arrival_committed spec_of state outcome given a))
      (changes_carry a.owed a.behind a.after a.lawful
      (record {
        carry = subst (λ (queues : List (List (Msg P))). AllByRecursion (AllByRecursion (Carries whole)) queues) (sym a.posted) posted.carry;
        unborn = λ i l. h.unborn i (omega (arith, l, a.made));
      }))

  answer_carries : (spec_of : P → SampleSpec) (state : State P) (s : Step P) → IsStep s → Takes whole s → IsConsistent spec_of state → AreWhole state → AreWhole (committed state (OutcomeParts.changes (answer_of spec_of state s)))
  answer_carries spec_of state s is takes consistent h = by (answer_sound spec_of state s is consistent)
    where
      by : IsLawful state (answer_of spec_of state s) ⊎ IsArrival spec_of state (answer_of spec_of state s) (given_in s) → AreWhole (committed state (OutcomeParts.changes (answer_of spec_of state s)))
      by (inl lawful) = changes_carry [] (OutcomeParts.changes (answer_of spec_of state s)) state lawful h
      by (inr a) = arrival_carries spec_of state (answer_of spec_of state s) (given_in s) a takes h

  pub step_carries : (spec_of : P → SampleSpec) (state : State P) (s : Step P) → IsStep s → Takes whole s → IsConsistent spec_of state → AreWhole state → AreWhole (stepped spec_of state s)
  step_carries spec_of state (connect conn) is takes consistent h = connected_carries (connection_of state.connections conn) conn state h
  step_carries spec_of state (frame conn f) is takes consistent h = answer_carries spec_of state (frame conn f) is takes consistent h
  step_carries spec_of state (broken conn fault at) is takes consistent h = answer_carries spec_of state (broken conn fault at) is takes consistent h
  step_carries spec_of state (close conn) is takes consistent h = answer_carries spec_of state (close conn) is takes consistent h
  step_carries spec_of state (cut conn) is takes consistent h = answer_carries spec_of state (cut conn) is takes consistent h
  step_carries spec_of state sweep is takes consistent h = answer_carries spec_of state sweep is takes consistent h
  step_carries spec_of state (notice sink n) is takes consistent h = answer_carries spec_of state (notice sink n) is takes consistent h
  step_carries spec_of state (out sink) is takes consistent h = out_carries sink state h

  pub steps_carry : (spec_of : P → SampleSpec) (steps : List (Step P)) (state : State P) → AllByRecursion IsStep steps → AllByRecursion (Takes whole) steps → IsConsistent spec_of state → AreWhole state → AreWhole (stepped_by spec_of state steps)
  steps_carry spec_of [] state is takes consistent h = h
  steps_carry spec_of (s ∷ steps) state is takes consistent h =
      steps_carry spec_of steps (stepped spec_of state s) is.1 takes.1 (step_keeps spec_of state s is.0 consistent) (step_carries spec_of state s is.0 takes.0 consistent h)

  -- ---- what is handed out

  posted_one : (sink : SinkId) (state : State P) (s : Step P) → AllCarry whole state → AllByRecursion (Carries whole) (posted_by_step sink state s)
  posted_one sink state (connect conn) h = tt
  posted_one sink state (frame conn f) h = tt
  posted_one sink state (broken conn fault at) h = tt
  posted_one sink state (close conn) h = tt
  posted_one sink state (cut conn) h = tt
  posted_one sink state sweep h = tt
  posted_one sink state (notice from n) h = tt
  posted_one sink state (out to) h =
      cond_both (nat_eq to.0 sink.0) (option_to_list (next_for state to)) [] (AllByRecursion (Carries whole))
      (λ e. all_first (Carries whole) (waiting_for state to) (all_get (AllByRecursion (Carries whole)) state.posted to.0 [] h tt))
      (λ e. tt)

  pub posted_carry : (spec_of : P → SampleSpec) (sink : SinkId) (steps : List (Step P)) (state : State P) → AllByRecursion IsStep steps → AllByRecursion (Takes whole) steps → IsConsistent spec_of state → AreWhole state → AllByRecursion (Carries whole) (posted_by_steps spec_of sink state steps)
  posted_carry spec_of sink [] state is takes consistent h = tt
  posted_carry spec_of sink (s ∷ steps) state is takes consistent h =
      all_join (Carries whole) (posted_by_step sink state s) (posted_by_steps spec_of sink (stepped spec_of state s) steps) (posted_one sink state s h.carry)
      (posted_carry spec_of sink steps (stepped spec_of state s) is.1 takes.1 (step_keeps spec_of state s is.0 consistent) (step_carries spec_of state s is.0 takes.0 consistent h))

  -- ---- a new state

  none_carry : (n : ℕ) → AllByRecursion (AllByRecursion (Carries whole)) (replicate n [])
  none_carry zero = tt
  none_carry (suc n) = (tt, none_carry n)

  pub new_carry : (header : Header) → AllCarry whole (new_state header)
  new_carry header = none_carry (length header.sinks)

-- ---- those that notices gave up

left_among : {P : Type 0} (xs ys : List (Brought P)) (b : Brought P) → IsAmong xs b → IsAmong (xs ++ ys) b
left_among [] ys b i = absurd i
left_among (x ∷ xs) ys b (inl e) = inl e
left_among (x ∷ xs) ys b (inr i) = inr (left_among xs ys b i)

right_among : {P : Type 0} (xs ys : List (Brought P)) (b : Brought P) → IsAmong ys b → IsAmong (xs ++ ys) b
right_among [] ys b i = i
right_among (x ∷ xs) ys b i = inr (right_among xs ys b i)

each_among : {P : Type 0} (given all : List (Brought P)) → ((b : Brought P) → IsAmong given b → IsAmong all b) → AllByRecursion (IsNewOrAmong all) given
each_among [] all k = tt
each_among (b ∷ given) all k = (inr (k b (inl refl)), each_among given all (λ c i. k c (inr i)))

steps_among : {P : Type 0} (steps : List (Step P)) (all : List (Brought P)) → ((b : Brought P) → IsAmong (flat_map given_in steps) b → IsAmong all b) → AllByRecursion (Takes (IsNewOrAmong all)) steps
steps_among [] all k = tt
steps_among (s ∷ steps) all k =
    (each_among (given_in s) all (λ b i. k b (left_among (given_in s) (flat_map given_in steps) b i)), steps_among steps all (λ b i. k b (right_among (given_in s) (flat_map given_in steps) b i)))

module _ {P : Type 0} (spec_of : P → SampleSpec) (header : Header) (steps : List (Step P)) (h : IsHeader header) (is : AllByRecursion IsStep steps) where
  abbrev IsGiven : Brought P → Type 0
  IsGiven = IsNewOrAmong (flat_map given_in steps)

  new_whole : AreWhole IsGiven (new_state header)
  new_whole = record { carry = new_carry IsGiven header; unborn = λ i l. inl refl }

  pub all_carried : AllCarry IsGiven (stepped_by spec_of (new_state header) steps)
  all_carried = (steps_carry IsGiven spec_of steps (new_state header) is (steps_among steps (flat_map given_in steps) (λ b i. i)) (new_keeps spec_of header h) new_whole).carry

  pub all_posted : (sink : SinkId) → AllByRecursion (Carries IsGiven) (posted_by_steps spec_of sink (new_state header) steps)
  all_posted sink = posted_carry IsGiven spec_of sink steps (new_state header) is (steps_among steps (flat_map given_in steps) (λ b i. i)) (new_keeps spec_of header h) new_whole
