-- Where an error is answered nothing has changed, and what a connection sends that has ended is ignored.
use Rattle.std.proofs.Common.{◌≡◌, ◌≤◌, ℕ, length, List, [], ◌∷◌, ◌++◌, Option, Some, None, Bool, true, false, refl, ap, sym, subst, ◌∙◌, arith, cond}
use Rattle.std.specs.Prelude.{get_or, Contains}
use Rattle.std.specs.List.{AllByRecursion, find}
use Rattle.std.proofs.lemmas.Bool.{cond_both, eq-eqb, false≢true}
use Rattle.std.proofs.lemmas.List.Elements.{All-contains, All-from_recursion}
use Rattle.std.proofs.lemmas.Option.{none-some, same_Some}
use Rattle.px_types.specs.declared.ids.ConnId.{ConnId}
use Rattle.px_frame.specs.Fault.{code_of as rule_of}
use Rattle.px_reply.specs.Front.{refusal}
use Rattle.px_model.specs.Frame.{SampleSpec}
use Rattle.px_outcome.specs.declared.change.Change.TheVariants.{Ended}
use Rattle.px_outcome.specs.declared.sending.Reason.{Reason}
use Rattle.px_outcome.specs.declared.sending.Reason.TheVariants.{Protocol as Breach, Limit, Cut as ForMemory}
use Rattle.px_outcome.specs.declared.sending.Sending.{Sending}
use Rattle.px_outcome.specs.declared.input.Connection.{Connection}
use Rattle.px_outcome.specs.Outcome.{OutcomeParts}
use Rattle.px_state.specs.declared.effect.Effect.{Effect}
use Rattle.px_state.specs.declared.effect.Effect.TheVariants.{Sent, Closed}
use Rattle.px_state.specs.State.{State, has_number, connection_of}
use Rattle.px_state.specs.Change.{Change, marked, with_connection, committed}
use Rattle.px_state.specs.Effect.{reason_code, fits, sent, sending, closed_at, closed_for}
use Rattle.px_state.specs.Outcome.{CoreOutcome, reply_to_asker, sent_all, closed_by, closed_all, outcome_effects, ended_by}
use Rattle.px_core.specs.Connecting.{is_full, connected, connect_effects, going_on, ended, sweep_of}
use Rattle.px_core.specs.Step.{Step, connect, frame, broken, close, cut, sweep, notice, out, frame_of, sender_of, answer_of, answered as after_outcome, answer_effects, admitted_effects, stepped, effects_of}
use Rattle.px_subscribe.specs.Became.{events_between}
use Rattle.px_subscribe.specs.InfoBytes.{infos_in}
use Rattle.px_subscribe.specs.Moments.{info_lists_of, subscribers_of, given_in, notified_between}
use Rattle.px_state.specs.Events.{scene_of, step_events}
use Rattle.px_state.proofs.SceneLaws.{events_are, none_events}
use Rattle.px_core.proofs.EventLaws.{admitted_there, events_no_error}
use Rattle.px_core.proofs.ListLaws.{all_joined, heads, tails, no_cons}
use Rattle.px_core.proofs.KindLaws.{Kind, still, replies, silent, ending, sent_apart, refusal_byte, closed_apart, frame_kind, ended_kind, sweep_kind, notice_kind}

-- ---- a packet that is sent ends no connection

abbrev IsSent : Effect → Type 0
IsSent (Sent to packet) = Unit {0}
IsSent (Closed to reason fault at) = ⊥

sending_sends : (to : ConnId) (packet : List ℕ) → AllByRecursion IsSent (sending to packet)
sending_sends to packet = cond_both (fits packet) (sent to packet ∷ []) [] (AllByRecursion IsSent) (λ e. (tt, tt)) (λ e. tt)

reply_sends : (reply : Option (List ℕ)) (asker : Option ConnId) → AllByRecursion IsSent (reply_to_asker reply asker)
reply_sends None asker = tt
reply_sends (Some packet) None = tt
reply_sends (Some packet) (Some to) = sending_sends to packet

all_send : (sendings : List Sending) → AllByRecursion IsSent (sent_all sendings)
all_send [] = tt
all_send (x ∷ sendings) = all_joined IsSent (sending x.conn x.packet) (sent_all sendings) (sending_sends x.conn x.packet) (all_send sendings)

still_sends : {P : Type 0} (asker : Option ConnId) (outcome : CoreOutcome P) → outcome.changes ≡ [] → AllByRecursion IsSent (outcome_effects asker outcome)
still_sends {P} asker outcome e =
    all_joined IsSent (reply_to_asker outcome.reply asker ++ sent_all outcome.errors ++ sent_all outcome.notified) (closed_all outcome.changes)
    (all_joined IsSent (reply_to_asker outcome.reply asker ++ sent_all outcome.errors) (sent_all outcome.notified)
    (all_joined IsSent (reply_to_asker outcome.reply asker) (sent_all outcome.errors) (reply_sends outcome.reply asker) (all_send outcome.errors))
    (all_send outcome.notified))
    (subst (λ (changes : List (Change P)). AllByRecursion IsSent (closed_all changes)) (sym e) tt)

-- an outcome that ends a connection does that alone
ended_effects : (P : Type 0) (asker : Option ConnId) (to : ConnId) (reason : Option Reason) (fault at : ℕ) → outcome_effects {P = P} asker (ended_by to reason fault at) ≡ closed_by to reason fault at
ended_effects P asker to None fault at = refl
ended_effects P asker to (Some reason) fault at = refl

-- ---- what follows of events is no error, and ends nobody

-- what is all of two lists is the first, or the second
pub data Alone (x : Effect) (xs ys : List Effect) : Type 0 where
  first : xs ≡ x ∷ [] → Alone x xs ys
  second : ys ≡ x ∷ [] → Alone x xs ys

none_left : (xs ys : List Effect) → xs ++ ys ≡ [] → xs ≡ []
none_left [] ys e = refl
none_left (z ∷ xs) ys e = absurd (no_cons z (xs ++ ys) e)

abbrev tail_of : List Effect → List Effect
tail_of [] = []
tail_of (x ∷ xs) = xs

alone_in : (x : Effect) (xs ys : List Effect) → xs ++ ys ≡ x ∷ [] → Alone x xs ys
alone_in x [] ys e = second e
alone_in x (z ∷ xs) ys e = first (λ k. heads z x (xs ++ ys) [] e k ∷ none_left xs ys (ap tail_of e) k)

-- ---- a step whose first effect is an error has no other, and changes nothing

module _ (conn : ConnId) (tag code : ℕ) where
  -- the effects are the error and then `more`
  abbrev Refuses : List Effect → List Effect → Type 0
  Refuses more effects = effects ≡ sent conn (refusal tag code) ∷ more

  not_silent : (more : List Effect) → Refuses more [] → ⊥
  not_silent more e = no_cons (sent conn (refusal tag code)) more (sym e)

  ended_apart : (to : ConnId) (reason : Option Reason) (fault at : ℕ) (more : List Effect) → Refuses more (closed_by to reason fault at) → ⊥
  ended_apart to None fault at more e = not_silent more e
  ended_apart to (Some reason) fault at more e = closed_apart to conn reason fault at (refusal tag code) (heads (Closed to reason fault at) (sent conn (refusal tag code)) [] more e)

  no_more : (more : List Effect) → length (sent conn (refusal tag code) ∷ more) ≤ 1 → more ≡ []
  no_more [] few = refl
  no_more (x ∷ more) few = absurd (omega (arith, few))

  kind_alone : {P : Type 0} (asker : Option ConnId) (outcome : CoreOutcome P) → Kind asker outcome → (more : List Effect) → Refuses more (outcome_effects asker outcome) → (outcome.changes ≡ []) × (more ≡ [])
  kind_alone asker outcome (still none few) more e = (none, no_more more (subst (λ effects. length effects ≤ 1) e few))
  kind_alone asker outcome (replies to packet others effects two) more e =
      absurd (sent_apart to conn packet (refusal tag code) two (refusal_byte tag code) (heads (sent to packet) (sent conn (refusal tag code)) others more (sym effects ∙ e)))
  kind_alone asker outcome (silent effects) more e = absurd (not_silent more (sym effects ∙ e))
  kind_alone {P} asker outcome (ending to reason fault at is) more e =
      absurd (ended_apart to reason fault at more (sym (ap (outcome_effects asker) is ∙ ended_effects P asker to reason fault at) ∙ e))

  -- events are no errors
  sendings_apart : (sendings : List Sending) (more : List Effect) → AllByRecursion (λ (x : Sending). 1 ≤ get_or x.packet 4 0) sendings → Refuses more (sent_all sendings) → ⊥
  sendings_apart [] more all e = not_silent more e
  sendings_apart (s ∷ sendings) more all e = by (λ f. sendings_apart sendings more all.1 f) (fits s.packet) e
    where
      by : (Refuses more (sent_all sendings) → ⊥) → (b : Bool) → Refuses more (cond b (sent s.conn s.packet ∷ []) [] ++ sent_all sendings) → ⊥
      by later true f = sent_apart s.conn conn s.packet (refusal tag code) all.0 (refusal_byte tag code) (heads (sent s.conn s.packet) (sent conn (refusal tag code)) (sent_all sendings) more f)
      by later false f = later f

  events_apart : {P : Type 0} (before after : State P) (more : List Effect) → Refuses more (step_events before after) → ⊥
  events_apart before after more e =
      sendings_apart (notified_between before.sinks after.clients_made (scene_of before) (scene_of after)) more
      (events_no_error (subscribers_of (scene_of after)) (events_between (given_in before.sinks after.clients_made (scene_of after)) (infos_in (info_lists_of before.sinks (scene_of before))) (infos_in (info_lists_of before.sinks (scene_of after)))))
      (sym (events_are before after) ∙ e)

  -- so the error precedes them
  front_refuses : {P : Type 0} (effects : List Effect) (before after : State P) (more : List Effect) → Refuses more (effects ++ step_events before after)
      → (others : List Effect) × Refuses others effects × (others ++ step_events before after ≡ more)
  front_refuses [] before after more e = absurd (events_apart before after more e)
  front_refuses (z ∷ zs) before after more e = (
    zs,
    ap (λ effect. effect ∷ zs) (heads z (sent conn (refusal tag code)) (zs ++ step_events before after) more e),
    tails z (sent conn (refusal tag code)) (zs ++ step_events before after) more e,
  )

  answer_alone : {P : Type 0} (state : State P) (asker : Option ConnId) (outcome : CoreOutcome P) → Kind asker outcome → (more : List Effect) → Refuses more (answer_effects asker state outcome)
      → (after_outcome state outcome ≡ state) × (more ≡ [])
  answer_alone {P} state asker outcome kind more e =
      let front = front_refuses (outcome_effects asker outcome) state (after_outcome state outcome) more e in
      let it = kind_alone asker outcome kind front.0 front.1 in
      let same : after_outcome state outcome ≡ state = ap (committed state) it.0 in
      (same, sym front.2 ∙ (λ k. it.1 k ++ step_events state (same k)) ∙ none_events state)

  outcome_alone : {P : Type 0} (state : State P) (asker : Option ConnId) (outcome : CoreOutcome P) → Kind asker outcome → (more : List Effect) → Refuses more (outcome_effects asker outcome)
      → (after_outcome state outcome ≡ state) × (more ≡ [])
  outcome_alone state asker outcome kind more e =
      let it = kind_alone asker outcome kind more e in
      (ap (committed state) it.0, it.1)

  -- a client that connects is sent nothing
  connect_refuses : {P : Type 0} (o : Option Connection) (n : ConnId) (state : State P) (more : List Effect) → Refuses more (connect_effects o n state) → ⊥
  connect_refuses (Some c) n state more e = not_silent more e
  connect_refuses None n state more e = either (is_full state) e
    where
      either : (b : Bool) → Refuses more (cond b (closed_for n Limit ∷ []) []) → ⊥
      either true f = ended_apart n (Some Limit) 0 0 more f
      either false f = not_silent more f

  pub refusal_changes_nothing : {P : Type 0} (spec_of : P → SampleSpec) (state : State P) (s : Step P) (more : List Effect) → Refuses more (effects_of spec_of state s)
      → (stepped spec_of state s ≡ state) × (more ≡ [])
  refusal_changes_nothing spec_of state (connect n) more e =
      let c = connection_of state.connections n in
      let front = front_refuses (connect_effects c n state) state (connected c n state) more e in
      absurd (connect_refuses c n state front.0 front.1)
  refusal_changes_nothing spec_of state (frame n f) more e = answer_alone state (Some n) (answer_of spec_of state (frame n f)) (frame_kind state n (going_on state.connections n) f) more e
  refusal_changes_nothing spec_of state (broken n fault at) more e =
      outcome_alone state (Some n) (answer_of spec_of state (broken n fault at)) (ended_kind (Some n) (going_on state.connections n) (Some Breach) (rule_of fault) at) more e
  refusal_changes_nothing spec_of state (close n) more e = outcome_alone state (Some n) (answer_of spec_of state (close n)) (ended_kind (Some n) (going_on state.connections n) None 0 0) more e
  refusal_changes_nothing spec_of state (cut n) more e = outcome_alone state (Some n) (answer_of spec_of state (cut n)) (ended_kind (Some n) (going_on state.connections n) (Some ForMemory) 0 0) more e
  refusal_changes_nothing spec_of state sweep more e = answer_alone state None (sweep_of state) (sweep_kind state) more e
  refusal_changes_nothing spec_of state (notice sink n) more e = answer_alone state None (answer_of spec_of state (notice sink n)) (notice_kind spec_of state sink n) more e
  refusal_changes_nothing spec_of state (out sink) more e = absurd (not_silent more e)

-- ---- a client that connects with a number in use

pub some_found : {A : Type 0} (q : A → Bool) (xs : List A) (y : A) → Contains xs y → q y ≡ true → (z : A) × (find q xs ≡ Some z)
some_found {A} q xs y held t = by (find q xs) refl
  where
    none_pass : (zs : List A) → find q zs ≡ None → AllByRecursion (λ z. q z ≡ false) zs
    none_pass [] e = tt
    none_pass (z ∷ zs) e = step (none_pass zs) (q z) refl e
      where
        step : (find q zs ≡ None → AllByRecursion (λ z. q z ≡ false) zs) → (b : Bool) → q z ≡ b → cond b (Some z) (find q zs) ≡ None → (q z ≡ false) × AllByRecursion (λ z. q z ≡ false) zs
        step later true f g = absurd (none-some z (sym g))
        step later false f g = (f, later g)

    by : (o : Option A) → find q xs ≡ o → (z : A) × (find q xs ≡ Some z)
    by None e = absurd (false≢true (sym (All-contains (λ z. q z ≡ false) xs y (All-from_recursion (λ z. q z ≡ false) xs (none_pass xs e)) held) ∙ t))
    by (Some z) e = (z, e)

pub known_is_ignored : {P : Type 0} (spec_of : P → SampleSpec) (state : State P) (conn : ConnId) (c : Connection) → Contains state.connections c → c.conn.0 ≡ conn.0
    → (stepped spec_of state (connect conn) ≡ state) × (effects_of spec_of state (connect conn) ≡ [])
known_is_ignored {P} spec_of state conn c held own =
    let it = some_found (has_number conn) state.connections c held (eq-eqb c.conn.0 conn.0 own) in (
      ap (λ o. connected o conn state) it.1,
      ap (λ o. admitted_effects o conn state) it.1 ∙ admitted_there P it.0 conn state,
    )

-- ---- a fault of a connection marks it, and changes nothing else

module _ (conn : ConnId) (fault at : ℕ) where
  abbrev Breaks : List Effect → Type 0
  Breaks effects = effects ≡ closed_at conn fault at ∷ []

  not_none : Breaks [] → ⊥
  not_none e = no_cons (closed_at conn fault at) [] (sym e)

  no_break : (effects : List Effect) → AllByRecursion IsSent effects → Breaks effects → ⊥
  no_break effects all e = (subst (AllByRecursion IsSent) e all).0

  abbrev number_of : Effect → ℕ
  number_of (Sent to packet) = to.0
  number_of (Closed to reason f a) = to.0

  abbrev reason_of : Effect → ℕ
  reason_of (Sent to packet) = 0
  reason_of (Closed to reason f a) = reason_code reason

  ended_marks : {P : Type 0} (state : State P) (to : ConnId) (reason : Option Reason) (f a : ℕ) → Breaks (closed_by to reason f a) → committed {P = P} state (Ended to reason f a ∷ []) ≡ with_connection conn marked state
  ended_marks state to None f a e = absurd (not_none e)
  ended_marks {P} state to (Some reason) f a e =
      let same : Closed to reason f a ≡ closed_at conn fault at = heads (Closed to reason f a) (closed_at conn fault at) [] [] e in
      ap (λ n. with_connection {P = P} (record { 0 = n }) marked state) (ap number_of same)

  kind_marks : {P : Type 0} (state : State P) (asker : Option ConnId) (outcome : CoreOutcome P) → Kind asker outcome → Breaks (outcome_effects asker outcome) → committed state outcome.changes ≡ with_connection conn marked state
  kind_marks state asker outcome (still none few) e = absurd (no_break (outcome_effects asker outcome) (still_sends asker outcome none) e)
  kind_marks state asker outcome (replies to packet more effects two) e = absurd (closed_apart conn to Breach fault at packet (sym (heads (sent to packet) (closed_at conn fault at) more [] (sym effects ∙ e))))
  kind_marks state asker outcome (silent effects) e = absurd (not_none (sym effects ∙ e))
  kind_marks {P} state asker outcome (ending to reason f a is) e =
      ap (λ (p : CoreOutcome P). committed state p.changes) is
      ∙ ended_marks state to reason f a (sym (ap (outcome_effects asker) is ∙ ended_effects P asker to reason f a) ∙ e)

  -- nor do events end anybody
  front_breaks : {P : Type 0} (effects : List Effect) (before after : State P) → Breaks (effects ++ step_events before after) → Breaks effects
  front_breaks effects before after e = by (alone_in (closed_at conn fault at) effects (step_events before after) e)
    where
      by : Alone (closed_at conn fault at) effects (step_events before after) → Breaks effects
      by (first f) = f
      by (second f) =
          let notified = notified_between before.sinks after.clients_made (scene_of before) (scene_of after) in
          absurd (no_break (sent_all notified) (all_send notified) (sym (events_are before after) ∙ f))

  -- a client that isn't taken has broken no rule
  connect_breaks : {P : Type 0} (o : Option Connection) (n : ConnId) (state : State P) → Breaks (connect_effects o n state) → ⊥
  connect_breaks (Some c) n state e = not_none e
  connect_breaks None n state e = either (is_full state) e
    where
      either : (b : Bool) → Breaks (cond b (closed_for n Limit ∷ []) []) → ⊥
      either true f =
          let code : ◌≡◌ {A = ℕ} 2 1 = ap reason_of (heads (closed_for n Limit) (closed_at conn fault at) [] [] f) in
          absurd (omega (arith, code))
      either false f = not_none f

  pub fault_marks_its_own : {P : Type 0} (spec_of : P → SampleSpec) (state : State P) (s : Step P) → Breaks (effects_of spec_of state s) → stepped spec_of state s ≡ with_connection conn marked state
  fault_marks_its_own spec_of state (connect n) e =
      let c = connection_of state.connections n in
      absurd (connect_breaks c n state (front_breaks (connect_effects c n state) state (connected c n state) e))
  fault_marks_its_own spec_of state (frame n f) e = kind_marks state (Some n) (answer_of spec_of state (frame n f)) (frame_kind state n (going_on state.connections n) f)
      (front_breaks (outcome_effects (Some n) (answer_of spec_of state (frame n f))) state (after_outcome state (answer_of spec_of state (frame n f))) e)
  fault_marks_its_own spec_of state (broken n f a) e = kind_marks state (Some n) (answer_of spec_of state (broken n f a)) (ended_kind (Some n) (going_on state.connections n) (Some Breach) (rule_of f) a) e
  fault_marks_its_own spec_of state (close n) e = kind_marks state (Some n) (answer_of spec_of state (close n)) (ended_kind (Some n) (going_on state.connections n) None 0 0) e
  fault_marks_its_own spec_of state (cut n) e = kind_marks state (Some n) (answer_of spec_of state (cut n)) (ended_kind (Some n) (going_on state.connections n) (Some ForMemory) 0 0) e
  fault_marks_its_own spec_of state sweep e = kind_marks state None (sweep_of state) (sweep_kind state) (front_breaks (outcome_effects None (sweep_of state)) state (after_outcome state (sweep_of state)) e)
  fault_marks_its_own spec_of state (notice sink n) e = kind_marks state None (answer_of spec_of state (notice sink n)) (notice_kind spec_of state sink n)
      (front_breaks (outcome_effects None (answer_of spec_of state (notice sink n))) state (after_outcome state (answer_of spec_of state (notice sink n))) e)
  fault_marks_its_own spec_of state (out sink) e = absurd (not_none e)

-- ---- a connection that isn't there, or has ended

pub ended_is_ignored : {P : Type 0} (spec_of : P → SampleSpec) (state : State P) (s : Step P) (conn : ConnId) → sender_of s ≡ Some conn → going_on state.connections conn ≡ None → (stepped spec_of state s ≡ state) × (effects_of spec_of state s ≡ [])
ended_is_ignored spec_of state (connect n) conn e gone = absurd (none-some conn e)
ended_is_ignored {P} spec_of state (frame n f) conn e gone =
    let none : going_on state.connections n ≡ None = ap (going_on state.connections) (same_Some n conn e) ∙ gone in
    (ap (λ o. committed state (OutcomeParts.changes (frame_of state o f))) none, ap (λ o. answer_effects (Some n) state (frame_of state o f)) none ∙ none_events state)
ended_is_ignored {P} spec_of state (broken n fault at) conn e gone =
    let none : going_on state.connections n ≡ None = ap (going_on state.connections) (same_Some n conn e) ∙ gone in
    (ap (λ o. committed state (OutcomeParts.changes (ended {P = P} o (Some Breach) (rule_of fault) at))) none, ap (λ o. outcome_effects (Some n) (ended {P = P} o (Some Breach) (rule_of fault) at)) none)
ended_is_ignored {P} spec_of state (close n) conn e gone =
    let none : going_on state.connections n ≡ None = ap (going_on state.connections) (same_Some n conn e) ∙ gone in
    (ap (λ o. committed state (OutcomeParts.changes (ended {P = P} o None 0 0))) none, ap (λ o. outcome_effects (Some n) (ended {P = P} o None 0 0)) none)
ended_is_ignored {P} spec_of state (cut n) conn e gone =
    let none : going_on state.connections n ≡ None = ap (going_on state.connections) (same_Some n conn e) ∙ gone in
    (ap (λ o. committed state (OutcomeParts.changes (ended {P = P} o (Some ForMemory) 0 0))) none, ap (λ o. outcome_effects (Some n) (ended {P = P} o (Some ForMemory) 0 0)) none)
ended_is_ignored spec_of state sweep conn e gone = absurd (none-some conn e)
ended_is_ignored spec_of state (notice sink n) conn e gone = absurd (none-some conn e)
ended_is_ignored spec_of state (out sink) conn e gone = absurd (none-some conn e)
