-- No step of the core brings the stream of an input to more sinks than it was on its way to, but for those that the step's notice gives up; and a new
-- input's stream is brought once.
use Rattle.std.proofs.Common.{◌≡◌, ◌⊎◌, ℕ, zero, suc, ◌+◌, ◌<◌, ◌≤◌, arith, List, [], ◌∷◌, ◌++◌, map, take, Option, None, Some, cond, refl, ap, ◌∙◌, inl, inr, ⊎_elim}
use Rattle.std.specs.Prelude.{set, get_or, replicate, flat_map, nat_eq, IfSome}
use Rattle.std.specs.List.{AllByRecursion, find}
use Rattle.std.specs.Option.{option_to_list}
use Rattle.std.proofs.lemmas.Bool.{cond_both, cases_eq, cases_lt, ne_eqb, eq-eqb, lt-ltb, le-ltb}
use Rattle.px_types.specs.declared.ids.ConnId.{ConnId}
use Rattle.px_types.specs.declared.ids.SinkId.{SinkId}
use Rattle.px_header.specs.declared.header.SinkSpec.{SinkSpec}
use Rattle.px_model.specs.Stream.{Stream}
use Rattle.px_model.specs.Track.{opens, all_opens}
use Rattle.px_msg.specs.declared.message.Msg.{Msg}
use Rattle.px_msg.specs.declared.message.Msg.TheVariants.{New, Attach, Detach, Write, Cork, Flush, Trigger, Prebuf, Drain, Attr, Factors, Query}
use Rattle.px_msg.specs.View.{message_of}
use Rattle.px_outcome.specs.declared.change.Change.TheVariants.{Authed, Named, Masked, Defaulted, Made, Described, Leaves, Moves, Arrives, Released, Posted, Regrouped, Asked, Answered, Gone, Ended, Forgotten}
use Rattle.px_outcome.specs.declared.input.Connection.{Connection}
use Rattle.px_outcome.specs.declared.input.Input.{Input}
use Rattle.px_outcome.specs.declared.input.Standing.{Standing}
use Rattle.px_outcome.specs.declared.input.Standing.TheVariants.{Settled, Moving, Leaving}
use Rattle.px_outcome.specs.Outcome.{OutcomeParts}
use Rattle.px_state.specs.declared.delayed.Delayed.{Delayed}
use Rattle.px_state.specs.State.{State, connection_of, input_of}
use Rattle.px_state.specs.Change.{Change, posted_to, posting, regrouping, ending, ending_of, posting_to_input, posting_if_there, departs, departs_of, releasing, releasing_of, changed, committed}
use Rattle.px_state.specs.Outcome.{CoreOutcome}
use Rattle.px_state.specs.Out.{first_of, rest_of, waiting_for, next_for, past, handed_out}
use Rattle.px_core.specs.Lawful.{is_of, Brings, Suits, AreFor, IsReleased, AreReleased, Lawful, AreLawfulOwing, owed_after}
use Rattle.px_core.specs.Connecting.{is_full, joined, connected}
use Rattle.px_core.specs.Consistency.{IsConsistent, IsStep, handed_out_by, messages_out}
use Rattle.px_core.specs.Parcels.{Brought, new_stream, carried_by, given_in}
use Rattle.px_core.specs.Step.{Step, connect, frame, broken, close, cut, sweep, notice, out, answer_of, stepped, stepped_by}
use Rattle.px_core.proofs.HandingLaws.{sink_there, all_out}
use Rattle.px_core.proofs.AnswerLaws.{IsLawful}
use Rattle.px_core.proofs.ArrivalLaws.{IsArrival, arrival_committed}
use Rattle.px_core.proofs.StepLaws.{answer_sound, step_keeps, outs_consistent}
use Rattle.px_core.proofs.HearingLaws.{outs}
use Rattle.px_world.specs.Whereabouts.{times, unborn, carried, coming}
use Rattle.px_world.proofs.Resuming.{times-join}
use Rattle.px_world.proofs.Steps.{steps-join}

-- ---- queues

carried-join : (xs ys : List (Msg Stream)) → carried (xs ++ ys) ≡ carried xs ++ carried ys
carried-join [] ys = refl
carried-join (x ∷ xs) ys = joined-on (carried_by x) (carried xs) (carried ys) (carried (xs ++ ys)) (carried-join xs ys)
  where
    joined-on : (first bs cs all : List (Brought Stream)) → all ≡ bs ++ cs → first ++ all ≡ (first ++ bs) ++ cs
    joined-on [] bs cs all e = e
    joined-on (a ∷ first) bs cs all e = ap (λ l. a ∷ l) (joined-on first bs cs all e)

pub times-carried : (i : ℕ) (xs ys : List (Msg Stream)) → times i (carried (xs ++ ys)) ≡ times i (carried xs) + times i (carried ys)
times-carried i xs ys = ap (times i) (carried-join xs ys) ∙ times-join i (carried xs) (carried ys)

one-carried : (i : ℕ) (m : Msg Stream) → times i (carried (m ∷ [])) ≡ times i (carried_by m)
one-carried i m = times-join i (carried_by m) [] ∙ plus-none (times i (carried_by m))
  where
    plus-none : (n : ℕ) → n + 0 ≡ n
    plus-none n = omega arith

coming-first : (i : ℕ) (queue : List (Msg Stream)) (posted : List (List (Msg Stream))) → coming i (queue ∷ posted) ≡ times i (carried queue) + coming i posted
coming-first i queue posted = times-join i (carried queue) (flat_map carried posted)

-- one message more in a queue
posted-coming : (i k : ℕ) (m : Msg Stream) (posted : List (List (Msg Stream))) → coming i (posted_to k m posted) ≤ coming i posted + times i (carried_by m)
posted-coming i k m [] = omega arith
posted-coming i zero m (queue ∷ posted) =
    omega (arith, coming-first i (queue ++ m ∷ []) posted, coming-first i queue posted, times-carried i queue (m ∷ []), one-carried i m)
posted-coming i (suc k) m (queue ∷ posted) =
    omega (arith, coming-first i queue (posted_to k m posted), coming-first i queue posted, posted-coming i k m posted)

-- the first message of a queue less
first-less : (i : ℕ) (queue : List (Msg Stream)) → times i (carried (rest_of queue)) + times i (carried (option_to_list (first_of queue))) ≡ times i (carried queue)
first-less i [] = refl
first-less i (m ∷ queue) = omega (arith, one-carried i m, times-join i (carried_by m) (carried queue))

handed-coming : (i k : ℕ) (posted : List (List (Msg Stream))) → coming i (set posted k (rest_of (get_or posted k []))) + times i (carried (option_to_list (first_of (get_or posted k [])))) ≡ coming i posted
handed-coming i k [] = refl
handed-coming i zero (queue ∷ posted) = omega (arith, coming-first i (rest_of queue) posted, coming-first i queue posted, first-less i queue)
handed-coming i (suc k) (queue ∷ posted) = omega (arith, coming-first i queue (set posted k (rest_of (get_or posted k []))), coming-first i queue posted, handed-coming i k posted)

-- ---- what the core knows of an input's stream: it isn't made yet, or on its way

abbrev pub under_way : ℕ → State Stream → ℕ
under_way i state = unborn i state.inputs_made + coming i state.posted

abbrev NoMore : ℕ → State Stream → State Stream → Type 0
NoMore i after state = under_way i after ≤ under_way i state

same : (n : ℕ) → n ≤ n
same n = omega arith

-- an input is made
born : (i made : ℕ) → unborn i (made + 1) + times i (new_stream made ∷ []) ≤ unborn i made
born i made =
    ⊎_elim
    (λ (l : i < made). omega (arith, ap (λ b. ◌+◌ (cond b 1 0) 0) (ne_eqb made i (apart made i l)), unborn-later i (made + 1) (omega (arith, l)), unborn-later i made l))
    (λ (l : made ≤ i).
    ⊎_elim
    (λ (e : made ≡ i). omega (arith, ap (λ b. ◌+◌ (cond b 1 0) 0) (eq-eqb made i e), unborn-later i (made + 1) (omega (arith, e)), unborn-before i made l))
    (λ (n : made ≡ i → ⊥). omega (arith, ap (λ b. ◌+◌ (cond b 1 0) 0) (ne_eqb made i n), unborn-before i (made + 1) (omega (arith, l, n)), unborn-before i made l))
    (cases_eq made i))
    (cases_lt i made)
  where
    apart : (a b : ℕ) → b < a → a ≡ b → ⊥
    apart a b l e = omega (arith, l, e)

    unborn-later : (a b : ℕ) → a < b → ◌≡◌ {A = ℕ} (unborn a b) 0
    unborn-later a b l = ap (λ t. cond t 0 1) (lt-ltb a b l)

    unborn-before : (a b : ℕ) → b ≤ a → ◌≡◌ {A = ℕ} (unborn a b) 1
    unborn-before a b l = ap (λ t. cond t 0 1) (le-ltb a b l)

-- ---- messages that bring nothing

suits-none : (x : Input) (m : Msg Stream) → Suits x m → carried_by m ≡ []
suits-none x (New n) b = absurd b
suits-none x (Attach input parcel feed factors) b = absurd b
suits-none x (Detach input) b = refl
suits-none x (Write input seek offset frames bytes) b = refl
suits-none x (Cork input on) b = refl
suits-none x (Flush input) b = refl
suits-none x (Trigger input) b = refl
suits-none x (Prebuf input) b = refl
suits-none x (Drain input tag) b = refl
suits-none x (Attr input attr) b = refl
suits-none x (Factors each) b = refl
suits-none x (Query input tag) b = refl

factors-none : (s : SinkSpec) (m : Msg Stream) → AreFor s m → carried_by m ≡ []
factors-none s (New n) b = absurd b
factors-none s (Attach input parcel feed factors) b = absurd b
factors-none s (Detach input) b = refl
factors-none s (Write input seek offset frames bytes) b = refl
factors-none s (Cork input on) b = refl
factors-none s (Flush input) b = refl
factors-none s (Trigger input) b = refl
factors-none s (Prebuf input) b = refl
factors-none s (Drain input tag) b = refl
factors-none s (Attr input attr) b = refl
factors-none s (Factors each) b = refl
factors-none s (Query input tag) b = refl

brings-one : (x : Input) (s : SinkSpec) (m : Msg Stream) → Brings x s m → carried_by m ≡ new_stream x.index.0 ∷ []
brings-one x s (New n) b = ap (λ j. new_stream j ∷ []) b.0
brings-one x s (Attach input parcel feed factors) b = absurd b
brings-one x s (Detach input) b = absurd b
brings-one x s (Write input seek offset frames bytes) b = absurd b
brings-one x s (Cork input on) b = absurd b
brings-one x s (Flush input) b = absurd b
brings-one x s (Trigger input) b = absurd b
brings-one x s (Prebuf input) b = absurd b
brings-one x s (Drain input tag) b = absurd b
brings-one x s (Attr input attr) b = absurd b
brings-one x s (Factors each) b = absurd b
brings-one x s (Query input tag) b = absurd b

-- ---- changes

module _ (i : ℕ) where
  posting-no-more : (k : ℕ) (m : Msg Stream) (state : State Stream) → carried_by m ≡ [] → NoMore i (posting k m state) state
  posting-no-more k m state e =
      let none : times i (carried_by m) ≡ 0 = ap (times i) e in
      omega (arith, none, posted-coming i k m state.posted)

  ending-no-more : (o : Option Input) (state : State Stream) → NoMore i (ending_of o state) state
  ending-no-more None state = same (under_way i state)
  ending-no-more (Some x) state = by x.standing
    where
      by : (standing : Standing) → NoMore i (ending standing x state) state
      by Settled = posting-no-more x.sink.0 (Detach x.index) state refl
      by (Moving to) = same (under_way i state)
      by Leaving = same (under_way i state)

  posting-if-no-more : (o : Option Input) (m : Msg Stream) (state : State Stream) → IfSome o (λ x. Suits x m) → NoMore i (posting_if_there o m state) state
  posting-if-no-more None m state suits = same (under_way i state)
  posting-if-no-more (Some x) m state suits = by x.standing
    where
      by : (standing : Standing) → NoMore i (posting_to_input standing x m state) state
      by Settled = posting-no-more x.sink.0 m state (suits-none x m suits)
      by (Moving to) = same (under_way i state)
      by Leaving = same (under_way i state)

  moved-no-more : (to : SinkId) (o : Option Input) (state : State Stream) → NoMore i (departs_of to o state) state
  moved-no-more to None state = same (under_way i state)
  moved-no-more to (Some x) state = by x.standing
    where
      by : (standing : Standing) → NoMore i (departs to standing x state) state
      by Settled = posting-no-more x.sink.0 (Detach x.index) state refl
      by (Moving on) = same (under_way i state)
      by Leaving = same (under_way i state)

  released-no-more : (o : Option Input) (state : State Stream) → IfSome o (AreReleased state.delayed) → NoMore i (releasing_of o state) state
  released-no-more None state ok = same (under_way i state)
  released-no-more (Some x) state ok = by (find (is_of x.index) state.delayed) ok
    where
      by : (o : Option (Delayed Stream)) → IfSome o (IsReleased x) → NoMore i (releasing x o state) state
      by None k = same (under_way i state)
      by (Some d) k = posting-no-more x.sink.0 d.message state (suits-none x d.message k.suits)

  made-no-more : (k made next : ℕ) (m : Msg Stream) (posted : List (List (Msg Stream))) → next ≡ made + 1 → carried_by m ≡ new_stream made ∷ [] → unborn i next + coming i (posted_to k m posted) ≤ unborn i made + coming i posted
  made-no-more k made next m posted n e =
      let later : unborn i next ≡ unborn i (made + 1) = ap (unborn i) n in
      let one : times i (carried_by m) ≡ times i (new_stream made ∷ []) = ap (times i) e in
      omega (arith, later, one, born i made, posted-coming i k m posted)

  change-no-more : (state : State Stream) (c : Change Stream) → Lawful state c → NoMore i (changed state c) state
  change-no-more state (Authed conn version) lawful = same (under_way i state)
  change-no-more state (Named conn list) lawful = same (under_way i state)
  change-no-more state (Masked conn mask) lawful = same (under_way i state)
  change-no-more state (Defaulted sink) lawful = same (under_way i state)
  change-no-more state (Made x m streams inputs) lawful =
      let own = sink_there state.sinks x.sink.0 lawful.0.is.sink_there in
      made-no-more x.sink.0 state.inputs_made inputs m state.posted lawful.1
      (brings-one x own.0 m (lawful.0.brings own.0 own.1) ∙ ap (λ j. new_stream j ∷ []) lawful.0.next)
  change-no-more state (Described index list) lawful = same (under_way i state)
  change-no-more state (Leaves index) lawful = ending-no-more (input_of state.inputs index) state
  change-no-more state (Moves index to) lawful = moved-no-more to (input_of state.inputs index) state
  change-no-more state (Arrives index m) lawful = absurd lawful
  change-no-more state (Released index) lawful = released-no-more (input_of state.inputs index) state lawful
  change-no-more state (Posted index m) lawful = posting-if-no-more (input_of state.inputs index) m state lawful
  change-no-more state (Regrouped sink group m) lawful =
      let own = sink_there state.sinks sink.0 lawful.there in
      posting-no-more sink.0 m (regrouping sink.0 group state) (factors-none own.0 m (lawful.factors own.0 own.1))
  change-no-more state (Asked w) lawful = same (under_way i state)
  change-no-more state (Answered w) lawful = same (under_way i state)
  change-no-more state (Gone index) lawful = same (under_way i state)
  change-no-more state (Ended conn reason fault at) lawful = same (under_way i state)
  change-no-more state (Forgotten conn) lawful = same (under_way i state)

  changes-no-more : (owed : List SinkId) (changes : List (Change Stream)) (state : State Stream) → AreLawfulOwing owed state changes → NoMore i (committed state changes) state
  changes-no-more owed [] state lawful = same (under_way i state)
  changes-no-more owed (c ∷ changes) state lawful =
      omega (arith, changes-no-more (owed_after state c owed) changes (changed state c) lawful.1, change-no-more state c lawful.0)

  -- ---- steps

  -- no more than the step gives up
  abbrev pub Within : State Stream → State Stream → List (Brought Stream) → Type 0
  Within after state given = under_way i after ≤ under_way i state + times i given

  arrival-within : (state : State Stream) (outcome : CoreOutcome Stream) (given : List (Brought Stream)) → IsArrival Stream.spec state outcome given → Within (committed state outcome.changes) state given
  arrival-within state outcome given a =
      let all : under_way i (committed state outcome.changes) ≡ under_way i (committed a.after a.behind) = ap (under_way i) (arrival_committed Stream.spec state outcome given a) in
      let made : unborn i a.after.inputs_made ≡ unborn i state.inputs_made = ap (unborn i) a.made in
      let posted : coming i a.after.posted ≡ coming i (posted_to a.to.0 a.message state.posted) = ap (coming i) a.posted in
      let brings : times i given ≡ times i (carried_by a.message) = ap (times i) a.carried in
      omega (arith, all, made, posted, brings, posted-coming i a.to.0 a.message state.posted, changes-no-more a.owed a.behind a.after a.lawful)

  answer-within : (state : State Stream) (s : Step Stream) → IsStep s → IsConsistent Stream.spec state → Within (committed state (OutcomeParts.changes (answer_of Stream.spec state s))) state (given_in s)
  answer-within state s is consistent = by (answer_sound Stream.spec state s is consistent)
    where
      by : IsLawful state (answer_of Stream.spec state s) ⊎ IsArrival Stream.spec state (answer_of Stream.spec state s) (given_in s) → Within (committed state (OutcomeParts.changes (answer_of Stream.spec state s))) state (given_in s)
      by (inl lawful) = omega (arith, changes-no-more [] (OutcomeParts.changes (answer_of Stream.spec state s)) state lawful)
      by (inr a) = arrival-within state (answer_of Stream.spec state s) (given_in s) a

  connected-within : (o : Option Connection) (conn : ConnId) (state : State Stream) → under_way i (connected o conn state) ≡ under_way i state
  connected-within (Some c) conn state = refl
  connected-within None conn state = cond_both (is_full state) state (joined conn state) (λ t. under_way i t ≡ under_way i state) (λ e. refl) (λ e. refl)

  -- a message is handed out
  handed-less : (sink : SinkId) (state : State Stream) → under_way i (handed_out sink state) + times i (carried (option_to_list (next_for state sink))) ≡ under_way i state
  handed-less sink state = by (first_of (get_or state.posted sink.0 [])) (handed-coming i sink.0 state.posted)
    where
      by : (o : Option (Msg Stream)) → coming i (set state.posted sink.0 (rest_of (get_or state.posted sink.0 []))) + times i (carried (option_to_list o)) ≡ coming i state.posted
          → under_way i (past o sink state) + times i (carried (option_to_list o)) ≡ under_way i state
      by None e = omega arith
      by (Some m) e = omega (arith, e)

  step-within : (state : State Stream) (s : Step Stream) → IsStep s → IsConsistent Stream.spec state → Within (stepped Stream.spec state s) state (given_in s)
  step-within state (connect conn) is consistent = omega (arith, connected-within (connection_of state.connections conn) conn state)
  step-within state (frame conn f) is consistent = answer-within state (frame conn f) is consistent
  step-within state (broken conn fault at) is consistent = answer-within state (broken conn fault at) is consistent
  step-within state (close conn) is consistent = answer-within state (close conn) is consistent
  step-within state (cut conn) is consistent = answer-within state (cut conn) is consistent
  step-within state sweep is consistent = answer-within state sweep is consistent
  step-within state (notice sink n) is consistent = answer-within state (notice sink n) is consistent
  step-within state (out sink) is consistent = omega (arith, handed-less sink state)

  pub steps-within : (state : State Stream) (steps : List (Step Stream)) → AllByRecursion IsStep steps → IsConsistent Stream.spec state → Within (stepped_by Stream.spec state steps) state (flat_map given_in steps)
  steps-within state [] is consistent = omega arith
  steps-within state (s ∷ steps) is consistent =
      omega (
        arith,
        times-join i (given_in s) (flat_map given_in steps),
        step-within state s is.0 consistent,
        steps-within (stepped Stream.spec state s) steps is.1 (step_keeps Stream.spec state s is.0 consistent),
      )

  handed-all : (n : ℕ) (sink : SinkId) (state : State Stream) → under_way i (handed_out_by n sink state) + times i (carried (messages_out n sink state)) ≡ under_way i state
  handed-all zero sink state = omega arith
  handed-all (suc n) sink state =
      omega (arith, handed-less sink state, handed-all n sink (handed_out sink state), times-carried i (option_to_list (next_for state sink)) (messages_out n sink (handed_out sink state)))

  -- those of a turn
  pub turn-within : (n : ℕ) (sink : SinkId) (state : State Stream) → IsConsistent Stream.spec state
      → under_way i (stepped_by Stream.spec state (replicate n (out sink) ++ sweep ∷ [])) + times i (carried (take n (waiting_for state sink))) ≤ under_way i state
  turn-within n sink state consistent =
      let after : stepped_by Stream.spec state (replicate n (out sink) ++ sweep ∷ []) ≡ stepped_by Stream.spec (handed_out_by n sink state) (sweep ∷ []) =
      steps-join Stream.spec state (replicate n (out sink)) (sweep ∷ []) ∙ ap (λ t. stepped_by Stream.spec t (sweep ∷ [])) (outs Stream.spec sink n state) in
      let swept : under_way i (stepped_by Stream.spec (handed_out_by n sink state) (sweep ∷ [])) ≤ under_way i (handed_out_by n sink state) + 0 =
      steps-within (handed_out_by n sink state) (sweep ∷ []) (tt, tt) (outs_consistent Stream.spec state sink n consistent) in
      let taken : times i (carried (messages_out n sink state)) ≡ times i (carried (take n (waiting_for state sink))) =
      ap (λ l. times i (carried l)) ((all_out Stream.spec state sink consistent.steady n (waiting_for state sink) refl).messages) in
      omega (arith, ap (under_way i) after, swept, taken, handed-all n sink state)

-- ---- the messages, as the sink reads them

opens-carried : (i : ℕ) (m : Msg Stream) → opens i (message_of (λ p. p) m) ≡ times i (carried_by m)
opens-carried i (New n) = plus-none (cond (nat_eq n.input.0 i) 1 0)
  where
    plus-none : (n : ℕ) → n ≡ n + 0
    plus-none n = omega arith
opens-carried i (Attach input parcel feed factors) = plus-none (cond (nat_eq input.0 i) 1 0)
  where
    plus-none : (n : ℕ) → n ≡ n + 0
    plus-none n = omega arith
opens-carried i (Detach input) = refl
opens-carried i (Write input seek offset frames bytes) = refl
opens-carried i (Cork input on) = refl
opens-carried i (Flush input) = refl
opens-carried i (Trigger input) = refl
opens-carried i (Prebuf input) = refl
opens-carried i (Drain input tag) = refl
opens-carried i (Attr input attr) = refl
opens-carried i (Factors each) = refl
opens-carried i (Query input tag) = refl

pub all-opens-carried : (i : ℕ) (ms : List (Msg Stream)) → all_opens i (map (message_of (λ p. p)) ms) ≡ times i (carried ms)
all-opens-carried i [] = refl
all-opens-carried i (m ∷ ms) = omega (arith, opens-carried i m, all-opens-carried i ms, times-join i (carried_by m) (carried ms))
