-- A connection is ended once at the most each time that it begins.
use Rattle.std.proofs.Common.{◌≡◌, ◌⊎◌, inl, inr, ℕ, ◌+◌, ◌≤◌, List, [], ◌∷◌, ◌++◌, length, Option, Some, None, Bool, true, false, refl, ap, sym, ◌∙◌, arith, cond, length-append}
use Rattle.std.specs.Prelude.{filter, nat_eq, is_some, IsSome, ℤ}
use Rattle.std.specs.List.{AllByRecursion, find}
use Rattle.std.proofs.lemmas.Bool.{cond_both, cond-false, eqb-true, eqb-false, ne_eqb, false≢true}
use Rattle.std.proofs.lemmas.List.Elements.{filter-append}
use Rattle.std.proofs.lemmas.Option.{none-some}
use Rattle.px_types.specs.declared.ids.ConnId.{ConnId}
use Rattle.px_types.specs.declared.ids.SinkId.{SinkId}
use Rattle.px_tag.specs.Place.{start_of}
use Rattle.px_cmd.specs.Packet.{head_at}
use Rattle.px_frame.specs.declared.frame.Frame.{Frame}
use Rattle.px_frame.specs.declared.frame.Body.{Body}
use Rattle.px_frame.specs.declared.frame.Body.TheVariants.{Control, Write}
use Rattle.px_model.specs.Frame.{SampleSpec}
use Rattle.px_msg.specs.declared.message.Msg.{Msg}
use Rattle.px_outcome.specs.declared.change.Change.TheVariants.{Authed, Named, Masked, Defaulted, Made, Described, Leaves, Moves, Arrives, Released, Posted, Regrouped, Asked, Answered, Gone, Ended, Forgotten}
use Rattle.px_outcome.specs.declared.sending.Reason.{Reason}
use Rattle.px_outcome.specs.declared.sending.Reason.TheVariants.{Limit}
use Rattle.px_outcome.specs.declared.sending.Sending.{Sending}
use Rattle.px_outcome.specs.declared.input.Connection.{Connection}
use Rattle.px_outcome.specs.declared.input.Input.{Input}
use Rattle.px_outcome.specs.declared.input.Standing.{Standing}
use Rattle.px_outcome.specs.declared.input.Standing.TheVariants.{Settled, Moving, Leaving}
use Rattle.px_ctl_play.specs.declared.data.Frames.{Frames}
use Rattle.px_ctl_play.specs.Data.{frames_of, write, written, data_for}
use Rattle.px_state.specs.declared.effect.Effect.{Effect}
use Rattle.px_state.specs.declared.effect.Effect.TheVariants.{Closed}
use Rattle.px_state.specs.Effect.{fits, sent, sending, closed_for}
use Rattle.px_state.specs.declared.delayed.Delayed.{Delayed}
use Rattle.px_state.specs.Delayed.{is_of}
use Rattle.px_state.specs.State.{State, has_number, connection_of, input_of, stream_of}
use Rattle.px_state.specs.Change.{Change, change_first, drop_first, authed, marked, with_streams, ending, ending_of, posting_to_input, posting_if_there, departs, departs_of, releasing, releasing_of, changed, committed}
use Rattle.px_state.specs.Outcome.{CoreOutcome, reply_to_asker, sent_all, closed_by, closed_in, closed_all, outcome_effects}
use Rattle.px_core.specs.Command.{head_answer}
use Rattle.px_core.specs.Connecting.{is_full, joined, new_connection, connected, connect_effects, unmarked, going_on}
use Rattle.px_state.specs.Out.{next_for, past}
use Rattle.px_core.specs.Parcels.{Brought, given_in}
use Rattle.px_core.specs.Consistency.{AreDistinct, IsSteady, IsConsistent, IsStep}
use Rattle.px_core.specs.Lawful.{Lawful, AreLawfulOwing, owed_after}
use Rattle.px_core.specs.Ending.{is_end_of, ends_of, goes_on, begins_with, begins_of, begins_by}
use Rattle.px_subscribe.specs.Moments.{notified_between}
use Rattle.px_state.specs.Events.{scene_of, step_events}
use Rattle.px_core.specs.Step.{Step, connect, frame, broken, close, cut, sweep, notice, out, body_answer, frame_of, answer_of, answered, stepped, effects_of, stepped_by, effects_by}
use Rattle.px_core.proofs.AnswerLaws.{IsLawful}
use Rattle.px_state.proofs.SceneLaws.{events_are}
use Rattle.px_core.proofs.Going.{going_by_own}
use Rattle.px_core.proofs.VerbLaws.{change_follows}
use Rattle.px_core.proofs.ArrivalLaws.{IsArrival, arrival_committed}
use Rattle.px_core.proofs.StepLaws.{head_lawful, answer_sound, step_keeps}

-- 1 where it goes on
abbrev goes : Option Connection → ℕ
goes o = cond (is_some (unmarked o)) 1 0

-- 1 where two are one
abbrev same : ConnId → ConnId → ℕ
same a b = cond (nat_eq a.0 b.0) 1 0

at_mark : (m : Bool) (c : Connection) → ◌≡◌ {A = ℕ} (cond (is_some (cond m None (Some c))) 1 0) (cond m 0 1)
at_mark true c = refl
at_mark false c = refl

abbrev marks_of : Bool → ℕ
marks_of m = cond m 0 1

abbrev count_of : Bool → ℕ
count_of m = cond m 1 0

flag_of : {m : Bool} → m ≡ false → ◌≡◌ {A = ℕ} (cond m 0 1) 1
flag_of e = ap marks_of e

none_of : {m : Bool} → m ≡ false → ◌≡◌ {A = ℕ} (cond m 1 0) 0
none_of e = ap count_of e

no_end : (n : ℕ) → 0 + n ≤ n
no_end n = omega arith

same_end : (a b : ℕ) → a ≡ b → 0 + a ≤ b
same_end a b e = omega (arith, e)

one_end : {A : Type 0} (b : Bool) (x : A) → ◌≡◌ {A = ℕ} (length (cond b (x ∷ []) [])) (cond b 1 0)
one_end true x = refl
one_end false x = refl

-- ---- changes of connections

-- a change of number and mark of none
change_goes : (n : ConnId) (f : Connection → Connection) → ((c : Connection) → (f c).conn.0 ≡ c.conn.0) → ((c : Connection) → (f c).marked ≡ c.marked) → (conn : ConnId) (cs : List Connection) → goes_on (change_first (has_number n) f cs) conn ≡ goes_on cs conn
change_goes n f keeps marks conn [] = refl
change_goes n f keeps marks conn (c ∷ cs) = step (change_goes n f keeps marks conn cs) (nat_eq c.conn.0 n.0)
  where
    own : (b d : Bool) → b ≡ d → goes (cond b (Some (f c)) (connection_of cs conn)) ≡ goes (cond d (Some c) (connection_of cs conn))
    own true true e = at_mark (f c).marked (f c) ∙ ap marks_of (marks c) ∙ sym (at_mark c.marked c)
    own true false e = absurd (false≢true (sym e))
    own false true e = absurd (false≢true e)
    own false false e = refl

    behind : (b : Bool) → goes_on (change_first (has_number n) f cs) conn ≡ goes_on cs conn → goes (cond b (Some c) (connection_of (change_first (has_number n) f cs) conn)) ≡ goes (cond b (Some c) (connection_of cs conn))
    behind true e = refl
    behind false e = e

    step : goes_on (change_first (has_number n) f cs) conn ≡ goes_on cs conn → (b : Bool) → goes (connection_of (cond b (f c ∷ cs) (c ∷ change_first (has_number n) f cs)) conn) ≡ goes (cond (nat_eq c.conn.0 conn.0) (Some c) (connection_of cs conn))
    step later true = own (nat_eq (f c).conn.0 conn.0) (nat_eq c.conn.0 conn.0) (ap (λ m. nat_eq m conn.0) (keeps c))
    step later false = behind (nat_eq c.conn.0 conn.0) later

-- one that goes on is marked
marked_goes : (n conn : ConnId) (c : Connection) (cs : List Connection) → going_on cs n ≡ Some c → same n conn + goes_on (change_first (has_number n) marked cs) conn ≤ goes_on cs conn
marked_goes n conn c [] e = absurd (none-some c e)
marked_goes n conn c (x ∷ cs) e = step (marked_goes n conn c cs) (nat_eq x.conn.0 n.0) refl e
  where
    unmarked_one : (m : Bool) → cond m None (Some x) ≡ Some c → m ≡ false
    unmarked_one true f = absurd (none-some c f)
    unmarked_one false f = refl

    own : x.marked ≡ false → (b d : Bool) → b ≡ d → cond b 1 0 + goes (cond d (Some (marked x)) (connection_of cs conn)) ≤ goes (cond d (Some x) (connection_of cs conn))
    own m true true f = omega (arith, at_mark x.marked x, flag_of m)
    own m true false f = absurd (false≢true (sym f))
    own m false true f = absurd (false≢true f)
    own m false false f = omega arith

    behind : (same n conn + goes_on (change_first (has_number n) marked cs) conn ≤ goes_on cs conn) → (x.conn.0 ≡ n.0 → ⊥) → (d : Bool) → nat_eq x.conn.0 conn.0 ≡ d → same n conn + goes (cond d (Some x) (connection_of (change_first (has_number n) marked cs) conn)) ≤ goes (cond d (Some x) (connection_of cs conn))
    behind later apart true f =
        let off : nat_eq n.0 conn.0 ≡ false = ne_eqb n.0 conn.0 (λ (g : n.0 ≡ conn.0). apart (eqb-true x.conn.0 conn.0 f ∙ sym g)) in
        omega (arith, none_of off)
    behind later apart false f = later

    step : (going_on cs n ≡ Some c → same n conn + goes_on (change_first (has_number n) marked cs) conn ≤ goes_on cs conn) → (b : Bool) → nat_eq x.conn.0 n.0 ≡ b → unmarked (cond b (Some x) (connection_of cs n)) ≡ Some c
        → same n conn + goes_on (cond b (marked x ∷ cs) (x ∷ change_first (has_number n) marked cs)) conn ≤ goes (cond (nat_eq x.conn.0 conn.0) (Some x) (connection_of cs conn))
    step later true t f = own (unmarked_one x.marked f) (nat_eq n.0 conn.0) (nat_eq x.conn.0 conn.0) (ap (λ k. nat_eq k conn.0) (sym (eqb-true x.conn.0 n.0 t)))
    step later false t f = behind (later f) (eqb-false x.conn.0 n.0 t) (nat_eq x.conn.0 conn.0) refl

none_other : (conn : ConnId) (i : ℕ) (cs : List Connection) → conn.0 ≡ i → AllByRecursion (λ d. (Connection.conn d).0 ≡ i → ⊥) cs → connection_of cs conn ≡ None
none_other conn i [] e a = refl
none_other conn i (c ∷ cs) e a =
    cond-false (nat_eq c.conn.0 conn.0) (Some c) (connection_of cs conn) (ne_eqb c.conn.0 conn.0 (λ (g : c.conn.0 ≡ conn.0). a.0 (g ∙ e))) ∙ none_other conn i cs e a.1

-- one is given up
dropped_goes : (n conn : ConnId) (cs : List Connection) → AreDistinct cs → goes_on (drop_first (has_number n) cs) conn ≤ goes_on cs conn
dropped_goes n conn [] d = omega arith
dropped_goes n conn (x ∷ cs) d = step (dropped_goes n conn cs d.1) (nat_eq x.conn.0 n.0)
  where
    own : (b : Bool) → nat_eq x.conn.0 conn.0 ≡ b → goes_on cs conn ≤ goes (cond b (Some x) (connection_of cs conn))
    own true e = omega (arith, ap goes (none_other conn x.conn.0 cs (sym (eqb-true x.conn.0 conn.0 e)) d.0))
    own false e = omega arith

    behind : goes_on (drop_first (has_number n) cs) conn ≤ goes_on cs conn → (b : Bool) → goes (cond b (Some x) (connection_of (drop_first (has_number n) cs) conn)) ≤ goes (cond b (Some x) (connection_of cs conn))
    behind later true = omega arith
    behind later false = later

    step : goes_on (drop_first (has_number n) cs) conn ≤ goes_on cs conn → (b : Bool) → goes_on (cond b cs (x ∷ drop_first (has_number n) cs)) conn ≤ goes_on (x ∷ cs) conn
    step later true = own (nat_eq x.conn.0 conn.0) refl
    step later false = behind later (nat_eq x.conn.0 conn.0)

-- one more is there
pushed_goes : (new : Connection) (conn : ConnId) (cs : List Connection) → goes_on (cs ++ new ∷ []) conn ≤ goes_on cs conn + same new.conn conn
pushed_goes new conn [] = own (nat_eq new.conn.0 conn.0) new.marked
  where
    own : (b m : Bool) → cond (is_some (unmarked (cond b (Some (record new { marked = m })) None))) 1 0 ≤ 0 + cond b 1 0
    own true true = omega arith
    own true false = omega arith
    own false m = omega arith
pushed_goes new conn (x ∷ cs) = behind (pushed_goes new conn cs) (nat_eq x.conn.0 conn.0)
  where
    behind : goes_on (cs ++ new ∷ []) conn ≤ goes_on cs conn + same new.conn conn → (b : Bool) → goes (cond b (Some x) (connection_of (cs ++ new ∷ []) conn)) ≤ goes (cond b (Some x) (connection_of cs conn)) + same new.conn conn
    behind later true = omega arith
    behind later false = later

-- ---- changes

posted_stays : {P : Type 0} (o : Option Input) (m : Msg P) (state : State P) → (posting_if_there o m state).connections ≡ state.connections
posted_stays None m state = refl
posted_stays (Some x) m state = by x.standing
  where
    by : (standing : Standing) → (posting_to_input standing x m state).connections ≡ state.connections
    by Settled = refl
    by (Moving to) = refl
    by Leaving = refl

left_stays : {P : Type 0} (o : Option Input) (state : State P) → (ending_of o state).connections ≡ state.connections
left_stays None state = refl
left_stays (Some x) state = by x.standing
  where
    by : (standing : Standing) → (ending standing x state).connections ≡ state.connections
    by Settled = refl
    by (Moving to) = refl
    by Leaving = refl

moved_stays : {P : Type 0} (to : SinkId) (o : Option Input) (state : State P) → (departs_of to o state).connections ≡ state.connections
moved_stays to None state = refl
moved_stays to (Some x) state = by x.standing
  where
    by : (standing : Standing) → (departs to standing x state).connections ≡ state.connections
    by Settled = refl
    by (Moving on) = refl
    by Leaving = refl

released_stays : {P : Type 0} (o : Option Input) (state : State P) → (releasing_of o state).connections ≡ state.connections
released_stays None state = refl
released_stays {P} (Some x) state = by (find (is_of x.index) state.delayed)
  where
    by : (o : Option (Delayed P)) → (releasing x o state).connections ≡ state.connections
    by None = refl
    by (Some d) = refl

closed_once : (conn n : ConnId) (reason : Option Reason) (fault at : ℕ) → ends_of conn (closed_by n reason fault at) ≤ same n conn
closed_once conn n None fault at = omega arith
closed_once conn n (Some reason) fault at = omega (arith, one_end (nat_eq n.0 conn.0) (Closed n reason fault at))

-- a change ends a connection at the most as often as it goes on no more
abbrev EndsOnce : {P : Type 0} → ConnId → State P → Change P → Type 0
EndsOnce conn state c = ends_of conn (closed_in c) + goes_on (changed state c).connections conn ≤ goes_on state.connections conn

ended_once : {P : Type 0} (conn n : ConnId) (state : State P) (reason : Option Reason) (fault at : ℕ) (o : Option Connection) → going_on state.connections n ≡ o → IsSome o → EndsOnce {P = P} conn state (Ended n reason fault at)
ended_once conn n state reason fault at None e some = absurd cc
ended_once conn n state reason fault at (Some c) e some = omega (arith, closed_once conn n reason fault at, marked_goes n conn c state.connections e)

change_once : {P : Type 0} (conn : ConnId) (state : State P) (c : Change P) → AreDistinct state.connections → Lawful state c → EndsOnce conn state c
change_once conn state (Authed n version) d lawful = omega (arith, change_goes n (authed version) (λ c. refl) (λ c. refl) conn state.connections)
change_once conn state (Named n list) d lawful = no_end (goes_on state.connections conn)
change_once conn state (Masked n mask) d lawful = no_end (goes_on state.connections conn)
change_once conn state (Defaulted sink) d lawful = no_end (goes_on state.connections conn)
change_once conn state (Made x m streams inputs) d lawful = omega (arith, change_goes x.conn (with_streams streams) (λ c. refl) (λ c. refl) conn state.connections)
change_once conn state (Described index list) d lawful = no_end (goes_on state.connections conn)
change_once conn state (Leaves index) d lawful = omega (arith, ap (λ connections. goes_on connections conn) (left_stays (input_of state.inputs index) state))
change_once conn state (Moves index to) d lawful = omega (arith, ap (λ connections. goes_on connections conn) (moved_stays to (input_of state.inputs index) state))
change_once conn state (Arrives index m) d lawful = absurd lawful
change_once conn state (Released index) d lawful = omega (arith, ap (λ connections. goes_on connections conn) (released_stays (input_of state.inputs index) state))
change_once conn state (Posted index m) d lawful = omega (arith, ap (λ connections. goes_on connections conn) (posted_stays (input_of state.inputs index) m state))
change_once conn state (Regrouped sink group m) d lawful = no_end (goes_on state.connections conn)
change_once conn state (Asked w) d lawful = no_end (goes_on state.connections conn)
change_once conn state (Answered w) d lawful = no_end (goes_on state.connections conn)
change_once conn state (Gone index) d lawful = no_end (goes_on state.connections conn)
change_once conn state (Ended n reason fault at) d lawful = ended_once conn n state reason fault at (going_on state.connections n) refl lawful
change_once conn state (Forgotten n) d lawful = omega (arith, dropped_goes n conn state.connections d)

ends_joined : (conn : ConnId) (xs ys : List Effect) → ends_of conn (xs ++ ys) ≡ ends_of conn xs + ends_of conn ys
ends_joined conn xs ys = ap length (filter-append (is_end_of conn) xs ys) ∙ length-append (filter (is_end_of conn) xs) (filter (is_end_of conn) ys)

then_once : (all first later before mid after : ℕ) → all ≡ first + later → first + mid ≤ before → later + after ≤ mid → all + after ≤ before
then_once all first later before mid after e f g = omega (arith, e, f, g)

changes_once : {P : Type 0} (spec_of : P → SampleSpec) (conn : ConnId) (owed : List SinkId) (state : State P) (changes : List (Change P)) → IsSteady spec_of state → AreLawfulOwing owed state changes → ends_of conn (closed_all changes) + goes_on (committed state changes).connections conn ≤ goes_on state.connections conn
changes_once spec_of conn owed state [] h lawful = no_end (goes_on state.connections conn)
changes_once spec_of conn owed state (c ∷ changes) h lawful =
    then_once (ends_of conn (closed_in c ++ closed_all changes)) (ends_of conn (closed_in c)) (ends_of conn (closed_all changes)) (goes_on state.connections conn) (goes_on (changed state c).connections conn) (goes_on (committed (changed state c) changes).connections conn)
    (ends_joined conn (closed_in c) (closed_all changes)) (change_once conn state c h.distinct lawful.0)
    (changes_once spec_of conn (owed_after state c owed) (changed state c) changes (change_follows spec_of state c h lawful.0).keeps lawful.1)

-- ---- outcomes

sending_ends : (conn to : ConnId) (packet : List ℕ) → ends_of conn (sending to packet) ≡ 0
sending_ends conn to packet = cond_both (fits packet) (sent to packet ∷ []) [] (λ effects. ends_of conn effects ≡ 0) (λ e. refl) (λ e. refl)

reply_ends : (conn : ConnId) (reply : Option (List ℕ)) (asker : Option ConnId) → ends_of conn (reply_to_asker reply asker) ≡ 0
reply_ends conn None asker = refl
reply_ends conn (Some packet) None = refl
reply_ends conn (Some packet) (Some to) = sending_ends conn to packet

sent_ends : (conn : ConnId) (sendings : List Sending) → ends_of conn (sent_all sendings) ≡ 0
sent_ends conn [] = refl
sent_ends conn (x ∷ sendings) = ends_joined conn (sending x.conn x.packet) (sent_all sendings) ∙ (omega (arith, sending_ends conn x.conn x.packet, sent_ends conn sendings))

none_before : (all rest more a b c d : ℕ) → all ≡ rest + d → rest ≡ more + c → more ≡ a + b → a ≡ 0 → b ≡ 0 → c ≡ 0 → all ≡ d
none_before all rest more a b c d e f g x y z = omega (arith, e, f, g, x, y, z)

outcome_ends : {P : Type 0} (conn : ConnId) (asker : Option ConnId) (outcome : CoreOutcome P) → ends_of conn (outcome_effects asker outcome) ≡ ends_of conn (closed_all outcome.changes)
outcome_ends conn asker outcome =
    none_before (ends_of conn (outcome_effects asker outcome)) (ends_of conn (reply_to_asker outcome.reply asker ++ sent_all outcome.errors ++ sent_all outcome.notified)) (ends_of conn (reply_to_asker outcome.reply asker ++ sent_all outcome.errors))
    (ends_of conn (reply_to_asker outcome.reply asker)) (ends_of conn (sent_all outcome.errors)) (ends_of conn (sent_all outcome.notified)) (ends_of conn (closed_all outcome.changes))
    (ends_joined conn (reply_to_asker outcome.reply asker ++ sent_all outcome.errors ++ sent_all outcome.notified) (closed_all outcome.changes))
    (ends_joined conn (reply_to_asker outcome.reply asker ++ sent_all outcome.errors) (sent_all outcome.notified))
    (ends_joined conn (reply_to_asker outcome.reply asker) (sent_all outcome.errors))
    (reply_ends conn outcome.reply asker) (sent_ends conn outcome.errors) (sent_ends conn outcome.notified)

-- the connection is ended at the most as often as it no longer goes on
abbrev Once : {P : Type 0} → ConnId → Option ConnId → State P → CoreOutcome P → Type 0
Once conn asker state outcome = ends_of conn (outcome_effects asker outcome) + goes_on (committed state outcome.changes).connections conn ≤ goes_on state.connections conn

lawful_once : {P : Type 0} (spec_of : P → SampleSpec) (conn : ConnId) (asker : Option ConnId) (state : State P) (outcome : CoreOutcome P) → IsConsistent spec_of state → IsLawful state outcome → Once conn asker state outcome
lawful_once spec_of conn asker state outcome h lawful = omega (arith, outcome_ends conn asker outcome, changes_once spec_of conn [] state outcome.changes h.steady lawful)

-- nor does an arrival end one
arrival_once : {P : Type 0} (spec_of : P → SampleSpec) (conn : ConnId) (asker : Option ConnId) (state : State P) (outcome : CoreOutcome P) (given : List (Brought P)) → IsArrival spec_of state outcome given → Once conn asker state outcome
arrival_once {P} spec_of conn asker state outcome given a =
    let closed : closed_all outcome.changes ≡ closed_all a.behind = ap (λ (changes : List (Change P)). closed_all changes) a.changes in
    let later = changes_once spec_of conn a.owed a.after a.behind a.follows.keeps a.lawful in
    omega (
      arith,
      outcome_ends conn asker outcome,
      ap (ends_of conn) closed,
      later,
      ap (λ (s : State P). goes_on s.connections conn) (arrival_committed spec_of state outcome given a),
      ap (λ connections. goes_on connections conn) a.connections,
    )

-- data tells nobody anything, be it lawful or not
posted_once : {P : Type 0} (conn : ConnId) (asker : Option ConnId) (state : State P) (frames : Option Frames) (x : Input) (seek : ℕ) (bytes : List ℕ) → Once {P = P} conn asker state (written frames x seek bytes)
posted_once conn asker state None x seek bytes = no_end (goes_on state.connections conn)
posted_once conn asker state (Some frames) x seek bytes =
    omega (arith, ap (λ connections. goes_on connections conn) (posted_stays (input_of state.inputs x.index) (write x frames seek bytes) state))

data_once : {P : Type 0} (conn : ConnId) (asker : Option ConnId) (state : State P) (o : Option Input) (offset : ℤ) (seek : ℕ) (bytes : List ℕ) → Once {P = P} conn asker state (data_for o offset seek bytes)
data_once conn asker state None offset seek bytes = no_end (goes_on state.connections conn)
data_once conn asker state (Some x) offset seek bytes = posted_once conn asker state (frames_of x offset (length bytes)) x seek bytes

body_once : {P : Type 0} (spec_of : P → SampleSpec) (conn : ConnId) (asker : Option ConnId) (state : State P) → IsConsistent spec_of state → (c : Connection) → going_on state.connections c.conn ≡ Some c → (at : ℕ) (body : Body) → Once conn asker state (body_answer state c at body)
body_once spec_of conn asker state h c e at (Control packet) =
    lawful_once spec_of conn asker state (head_answer state c at packet (head_at (start_of packet))) h (head_lawful spec_of state h c e at packet (head_at (start_of packet)))
body_once spec_of conn asker state h c e at (Write stream offset seek bytes) = data_once conn asker state (stream_of state.inputs c.conn stream) offset seek bytes

frame_once : {P : Type 0} (spec_of : P → SampleSpec) (conn n : ConnId) (asker : Option ConnId) (state : State P) → IsConsistent spec_of state → (o : Option Connection) → going_on state.connections n ≡ o → (f : Frame) → Once conn asker state (frame_of state o f)
frame_once spec_of conn n asker state h None here f = no_end (goes_on state.connections conn)
frame_once spec_of conn n asker state h (Some c) here f = body_once spec_of conn asker state h c (going_by_own state.connections n c here) f.at f.body

-- ---- steps

joined_once : (all first later before mid after b c : ℕ) → all ≡ first + later → first + mid ≤ before + b → later + after ≤ mid + c → all + after ≤ before + (b + c)
joined_once all first later before mid after b c e f g = omega (arith, e, f, g)

out_same : {P : Type 0} (o : Option (Msg P)) (sink : SinkId) (state : State P) (conn : ConnId) → goes_on (past o sink state).connections conn ≡ goes_on state.connections conn
out_same None sink state conn = refl
out_same (Some m) sink state conn = refl

connect_once : {P : Type 0} (conn n : ConnId) (state : State P) (o : Option Connection) → ends_of conn (connect_effects o n state) + goes_on (connected o n state).connections conn ≤ goes_on state.connections conn + begins_with o n conn
connect_once conn n state (Some c) = omega arith
connect_once {P} conn n state None = either (is_full state)
  where
    either : (b : Bool) → ends_of conn (cond b (closed_for n Limit ∷ []) []) + goes_on (State.connections (cond b state (joined n state))) conn ≤ goes_on state.connections conn + same n conn
    either true = omega (arith, one_end (nat_eq n.0 conn.0) (closed_for n Limit))
    either false = omega (arith, pushed_goes (new_connection n state.clients_made) conn state.connections)

other_once : {P : Type 0} (spec_of : P → SampleSpec) (conn : ConnId) (asker : Option ConnId) (state : State P) (s : Step P) → IsStep s → IsConsistent spec_of state → Once conn asker state (answer_of spec_of state s)
other_once {P} spec_of conn asker state s is h = by (answer_sound spec_of state s is h)
  where
    outcome : CoreOutcome P
    outcome = answer_of spec_of state s

    by : IsLawful state outcome ⊎ IsArrival spec_of state outcome (given_in s) → Once conn asker state outcome
    by (inl lawful) = lawful_once spec_of conn asker state outcome h lawful
    by (inr a) = arrival_once spec_of conn asker state outcome (given_in s) a

-- events end none
with_events : {P : Type 0} (conn : ConnId) (effects : List Effect) (before after : State P) → ends_of conn (effects ++ step_events before after) ≡ ends_of conn effects
with_events conn effects before after =
    ends_joined conn effects (step_events before after)
    ∙ (omega (arith, ap (ends_of conn) (events_are before after), sent_ends conn (notified_between before.sinks after.clients_made (scene_of before) (scene_of after))))

-- a step ends a connection only where it went on, and goes on no more, or where it isn't taken
pub step_once : {P : Type 0} (conn : ConnId) (spec_of : P → SampleSpec) (state : State P) (s : Step P) → IsConsistent spec_of state → ends_of conn (effects_of spec_of state s) + goes_on (stepped spec_of state s).connections conn ≤ goes_on state.connections conn + begins_of conn state s
step_once conn spec_of state (connect n) h =
    let c = connection_of state.connections n in
    omega (arith, connect_once conn n state c, with_events conn (connect_effects c n state) state (connected c n state))
step_once conn spec_of state (frame n f) h =
    let outcome = answer_of spec_of state (frame n f) in
    omega (arith, frame_once spec_of conn n (Some n) state h (going_on state.connections n) refl f, with_events conn (outcome_effects (Some n) outcome) state (answered state outcome))
step_once conn spec_of state (broken n fault at) h = omega (arith, other_once spec_of conn (Some n) state (broken n fault at) tt h)
step_once conn spec_of state (close n) h = omega (arith, other_once spec_of conn (Some n) state (close n) tt h)
step_once conn spec_of state (cut n) h = omega (arith, other_once spec_of conn (Some n) state (cut n) tt h)
step_once conn spec_of state sweep h =
    let outcome = answer_of spec_of state sweep in
    omega (arith, other_once spec_of conn None state sweep tt h, with_events conn (outcome_effects None outcome) state (answered state outcome))
step_once conn spec_of state (notice sink n) h =
    let outcome = answer_of spec_of state (notice sink n) in
    omega (arith, other_once spec_of conn None state (notice sink n) tt h, with_events conn (outcome_effects None outcome) state (answered state outcome))
step_once conn spec_of state (out sink) h = omega (arith, out_same (next_for state sink) sink state conn)

pub steps_once : {P : Type 0} (conn : ConnId) (spec_of : P → SampleSpec) (state : State P) (steps : List (Step P)) → AllByRecursion IsStep steps → IsConsistent spec_of state → ends_of conn (effects_by spec_of state steps) + goes_on (stepped_by spec_of state steps).connections conn ≤ goes_on state.connections conn + begins_by spec_of conn state steps
steps_once conn spec_of state [] is h = omega arith
steps_once conn spec_of state (s ∷ steps) is h =
    joined_once (ends_of conn (effects_of spec_of state s ++ effects_by spec_of (stepped spec_of state s) steps)) (ends_of conn (effects_of spec_of state s)) (ends_of conn (effects_by spec_of (stepped spec_of state s) steps))
    (goes_on state.connections conn) (goes_on (stepped spec_of state s).connections conn) (goes_on (stepped_by spec_of (stepped spec_of state s) steps).connections conn) (begins_of conn state s) (begins_by spec_of conn (stepped spec_of state s) steps)
    (ends_joined conn (effects_of spec_of state s) (effects_by spec_of (stepped spec_of state s) steps)) (step_once conn spec_of state s h)
    (steps_once conn spec_of (stepped spec_of state s) steps is.1 (step_keeps spec_of state s is.0 h))
