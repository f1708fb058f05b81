-- All that a sink is handed out over any steps is orderly, and leaves the inputs that the core knows to be there.
use Rattle.std.proofs.Common.{◌≡◌, ℕ, zero, suc, List, [], ◌∷◌, ◌++◌, map, take, Option, Some, None, refl, ap, sym, subst, ◌∙◌}
use Rattle.std.specs.Prelude.{nat_eq, get_or, slice_get, replicate}
use Rattle.std.specs.List.{AllByRecursion, find}
use Rattle.std.specs.Option.{option_to_list}
use Rattle.std.proofs.lemmas.Bool.{cond_both, cond-true, cond-false, eqb-true, eqb-false, eq-eqb, ne_eqb}
use Rattle.std.proofs.lemmas.List.{append_assoc}
use Rattle.px_types.specs.declared.ids.ConnId.{ConnId}
use Rattle.px_types.specs.declared.ids.SinkId.{SinkId}
use Rattle.px_header.specs.declared.header.SinkSpec.{SinkSpec}
use Rattle.px_model.specs.Frame.{SampleSpec}
use Rattle.px_model.specs.Orderly.{Inputs, IsOrderly, inputs_left, inputs_left_by}
use Rattle.px_msg.specs.declared.message.Msg.{Msg}
use Rattle.px_msg.specs.View.{sample_spec}
use Rattle.px_outcome.specs.declared.change.Change.TheVariants.{Authed, Named, Masked, Defaulted, Made, Described, Leaves, Moves, Arrives, Released, Posted, Regrouped, Asked, Answered, Gone, Ended, Forgotten}
use Rattle.px_outcome.specs.declared.input.Input.{Input}
use Rattle.px_outcome.specs.declared.input.Standing.{Standing}
use Rattle.px_outcome.specs.declared.input.Standing.TheVariants.{Settled, Moving, Leaving}
use Rattle.px_outcome.specs.declared.input.Connection.{Connection}
use Rattle.px_state.specs.declared.delayed.Delayed.{Delayed}
use Rattle.px_state.specs.Delayed.{is_of}
use Rattle.px_state.specs.State.{State, connection_of, input_of}
use Rattle.px_state.specs.Change.{Change, ending, ending_of, posting_to_input, posting_if_there, departs, departs_of, arrives, arrives_of, releasing, releasing_of, changed, committed}
use Rattle.px_outcome.specs.Outcome.{OutcomeParts}
use Rattle.px_core.specs.Connecting.{is_full, joined, connected}
use Rattle.px_core.specs.Orderly.{inputs_there}
use Rattle.px_state.specs.Out.{waiting_for, first_of, next_for, past, handed_out}
use Rattle.px_core.specs.Consistency.{AreInStep, IsConsistent, IsPosted, IsStep, Spares, handed_out_by, messages_out}
use Rattle.px_core.specs.Hearing.{posted_by_step, posted_by_steps}
use Rattle.px_core.specs.Step.{Step, connect, frame, broken, close, cut, sweep, notice, out, answer_of, stepped, stepped_by}
use Rattle.px_core.proofs.InStepLaws.{view}
use Rattle.px_core.proofs.ChangeLaws.{sink_at}
use Rattle.px_core.proofs.HandingLaws.{past_leaves, all_out}
use Rattle.px_core.proofs.StepLaws.{step_keeps, step_spares}

-- ---- the sinks stay

ending_sinks : {P : Type 0} (o : Option Input) (state : State P) → (ending_of o state).sinks ≡ state.sinks
ending_sinks None state = refl
ending_sinks (Some x) state = by x.standing
  where
    by : (standing : Standing) → (ending standing x state).sinks ≡ state.sinks
    by Settled = refl
    by (Moving to) = refl
    by Leaving = refl

posting_to_input_sinks : {P : Type 0} (o : Option Input) (m : Msg P) (state : State P) → (posting_if_there o m state).sinks ≡ state.sinks
posting_to_input_sinks None m state = refl
posting_to_input_sinks (Some x) m state = by x.standing
  where
    by : (standing : Standing) → (posting_to_input standing x m state).sinks ≡ state.sinks
    by Settled = refl
    by (Moving to) = refl
    by Leaving = refl

moved_sinks : {P : Type 0} (to : SinkId) (o : Option Input) (state : State P) → (departs_of to o state).sinks ≡ state.sinks
moved_sinks to None state = refl
moved_sinks to (Some x) state = by x.standing
  where
    by : (standing : Standing) → (departs to standing x state).sinks ≡ state.sinks
    by Settled = refl
    by (Moving on) = refl
    by Leaving = refl

arrived_sinks : {P : Type 0} (o : Option Input) (m : Msg P) (state : State P) → (arrives_of o m state).sinks ≡ state.sinks
arrived_sinks None m state = refl
arrived_sinks (Some x) m state = by x.standing
  where
    by : (standing : Standing) → (arrives standing x m state).sinks ≡ state.sinks
    by Settled = refl
    by (Moving to) = refl
    by Leaving = refl

released_sinks : {P : Type 0} (o : Option Input) (state : State P) → (releasing_of o state).sinks ≡ state.sinks
released_sinks None state = refl
released_sinks {P} (Some x) state = by (find (is_of x.index) state.delayed)
  where
    by : (o : Option (Delayed P)) → (releasing x o state).sinks ≡ state.sinks
    by None = refl
    by (Some d) = refl

change_sinks : {P : Type 0} (state : State P) (c : Change P) → (changed state c).sinks ≡ state.sinks
change_sinks state (Authed conn version) = refl
change_sinks state (Named conn list) = refl
change_sinks state (Masked conn mask) = refl
change_sinks state (Defaulted sink) = refl
change_sinks state (Made x m streams inputs) = refl
change_sinks state (Described index list) = refl
change_sinks state (Leaves index) = ending_sinks (input_of state.inputs index) state
change_sinks state (Moves index to) = moved_sinks to (input_of state.inputs index) state
change_sinks state (Arrives index m) = arrived_sinks (input_of state.inputs index) m state
change_sinks state (Released index) = released_sinks (input_of state.inputs index) state
change_sinks state (Posted index m) = posting_to_input_sinks (input_of state.inputs index) m state
change_sinks state (Regrouped sink group m) = refl
change_sinks state (Asked w) = refl
change_sinks state (Answered w) = refl
change_sinks state (Gone index) = refl
change_sinks state (Ended conn reason fault at) = refl
change_sinks state (Forgotten conn) = refl

committed_sinks : {P : Type 0} (changes : List (Change P)) (state : State P) → (committed state changes).sinks ≡ state.sinks
committed_sinks [] state = refl
committed_sinks (c ∷ changes) state = committed_sinks changes (changed state c) ∙ change_sinks state c

connected_sinks : {P : Type 0} (o : Option Connection) (conn : ConnId) (state : State P) → (connected o conn state).sinks ≡ state.sinks
connected_sinks (Some c) conn state = refl
connected_sinks None conn state = cond_both (is_full state) state (joined conn state) (λ after. after.sinks ≡ state.sinks) (λ e. refl) (λ e. refl)

past_sinks : {P : Type 0} (o : Option (Msg P)) (sink : SinkId) (state : State P) → (past o sink state).sinks ≡ state.sinks
past_sinks None sink state = refl
past_sinks (Some m) sink state = refl

pub step_sinks : {P : Type 0} (spec_of : P → SampleSpec) (state : State P) (s : Step P) → (stepped spec_of state s).sinks ≡ state.sinks
step_sinks spec_of state (connect conn) = connected_sinks (connection_of state.connections conn) conn state
step_sinks spec_of state (frame conn f) = committed_sinks (OutcomeParts.changes (answer_of spec_of state (frame conn f))) state
step_sinks spec_of state (broken conn fault at) = committed_sinks (OutcomeParts.changes (answer_of spec_of state (broken conn fault at))) state
step_sinks spec_of state (close conn) = committed_sinks (OutcomeParts.changes (answer_of spec_of state (close conn))) state
step_sinks spec_of state (cut conn) = committed_sinks (OutcomeParts.changes (answer_of spec_of state (cut conn))) state
step_sinks spec_of state sweep = committed_sinks (OutcomeParts.changes (answer_of spec_of state sweep)) state
step_sinks spec_of state (notice sink n) = committed_sinks (OutcomeParts.changes (answer_of spec_of state (notice sink n))) state
step_sinks spec_of state (out sink) = past_sinks (next_for state sink) sink state

pub steps_sinks : {P : Type 0} (spec_of : P → SampleSpec) (state : State P) (steps : List (Step P)) → (stepped_by spec_of state steps).sinks ≡ state.sinks
steps_sinks spec_of state [] = refl
steps_sinks spec_of state (s ∷ steps) = steps_sinks spec_of (stepped spec_of state s) steps ∙ step_sinks spec_of state s

-- ---- what the sink is told

-- orderly from some inputs, with what it leaves there, and as the core posts it
pub record Heard {P : Type 0} (spec_of : P → SampleSpec) (s : SinkSpec) (before after : Inputs) (messages : List (Msg P)) : Type 0 where
  pub orderly : IsOrderly spec_of (sample_spec s.spec) before (map view messages)
  pub left : after ≡ inputs_left_by spec_of before (map view messages)
  pub each : AllByRecursion IsPosted messages

from_same : {P : Type 0} (spec_of : P → SampleSpec) (s : SinkSpec) (before mid after : Inputs) (messages : List (Msg P)) → mid ≡ before → Heard spec_of s mid after messages → Heard spec_of s before after messages
from_same spec_of s before mid after messages e h = subst (λ inputs. Heard spec_of s inputs after messages) e h

-- one message, and those after it
heard_next : {P : Type 0} (spec_of : P → SampleSpec) (state : State P) (sink : SinkId) (s : SinkSpec) → slice_get state.sinks sink.0 ≡ Some s → IsConsistent spec_of state → (waiting : List (Msg P)) → get_or state.posted sink.0 [] ≡ waiting → (after : Inputs) (later : List (Msg P)) → Heard spec_of s (inputs_there (past (first_of waiting) sink state) sink) after later → Heard spec_of s (inputs_there state sink) after (option_to_list (first_of waiting) ++ later)
heard_next spec_of state sink s there h [] e after later heard = heard
heard_next spec_of state sink s there h (m ∷ rest) e after later heard =
    let first : AreInStep spec_of (sink_at sink.0) s state.inputs (m ∷ rest) = subst (λ ms. AreInStep spec_of (sink_at sink.0) s state.inputs ms) e (h.steady.in_step sink.0 s there) in
    let it : Heard spec_of s (inputs_left spec_of (inputs_there state sink) (view m)) after later =
    from_same spec_of s (inputs_left spec_of (inputs_there state sink) (view m)) (inputs_there (past (Some m) sink state) sink) after later (past_leaves spec_of state sink h.steady m rest e).1 heard in
    record { orderly = (first.orderly.0, first.orderly.1, it.orderly); left = it.left; each = (first.each.0, it.each) }

heard_step : {P : Type 0} (spec_of : P → SampleSpec) (state : State P) (sink : SinkId) (s : SinkSpec) → slice_get state.sinks sink.0 ≡ Some s → IsConsistent spec_of state → (t : Step P) → IsStep t → (after : Inputs) (later : List (Msg P)) → Heard spec_of s (inputs_there (stepped spec_of state t) sink) after later → Heard spec_of s (inputs_there state sink) after (posted_by_step sink state t ++ later)
heard_step spec_of state sink s there h (connect conn) is after later heard = from_same spec_of s (inputs_there state sink) (inputs_there (stepped spec_of state (connect conn)) sink) after later (step_spares spec_of state (connect conn) sink is tt h) heard
heard_step spec_of state sink s there h (frame conn f) is after later heard = from_same spec_of s (inputs_there state sink) (inputs_there (stepped spec_of state (frame conn f)) sink) after later (step_spares spec_of state (frame conn f) sink is tt h) heard
heard_step spec_of state sink s there h (broken conn fault at) is after later heard =
    from_same spec_of s (inputs_there state sink) (inputs_there (stepped spec_of state (broken conn fault at)) sink) after later (step_spares spec_of state (broken conn fault at) sink is tt h) heard
heard_step spec_of state sink s there h (close conn) is after later heard = from_same spec_of s (inputs_there state sink) (inputs_there (stepped spec_of state (close conn)) sink) after later (step_spares spec_of state (close conn) sink is tt h) heard
heard_step spec_of state sink s there h (cut conn) is after later heard = from_same spec_of s (inputs_there state sink) (inputs_there (stepped spec_of state (cut conn)) sink) after later (step_spares spec_of state (cut conn) sink is tt h) heard
heard_step spec_of state sink s there h sweep is after later heard = from_same spec_of s (inputs_there state sink) (inputs_there (stepped spec_of state sweep) sink) after later (step_spares spec_of state sweep sink is tt h) heard
heard_step spec_of state sink s there h (notice from n) is after later heard =
    from_same spec_of s (inputs_there state sink) (inputs_there (stepped spec_of state (notice from n)) sink) after later (step_spares spec_of state (notice from n) sink is tt h) heard
heard_step {P} spec_of state sink s there h (out to) is after later heard =
    cond_both (nat_eq to.0 sink.0) (option_to_list (next_for state to)) [] (λ messages. Heard spec_of s (inputs_there state sink) after (messages ++ later))
    (λ e.
    subst (λ n. Heard spec_of s (inputs_there state sink) after (option_to_list (next_for state (sink_at n)) ++ later)) (sym (eqb-true to.0 sink.0 e))
    (heard_next spec_of state sink s there h (get_or state.posted sink.0 []) refl after later
    (subst (λ n. Heard spec_of s (inputs_there (handed_out (sink_at n) state) sink) after later) (eqb-true to.0 sink.0 e) heard)))
    (λ e. from_same spec_of s (inputs_there state sink) (inputs_there (stepped spec_of state (out to)) sink) after later (step_spares spec_of state (out to) sink is (eqb-false to.0 sink.0 e) h) heard)

pub heard_by : {P : Type 0} (spec_of : P → SampleSpec) (sink : SinkId) (s : SinkSpec) (steps : List (Step P)) (state : State P) → slice_get state.sinks sink.0 ≡ Some s → AllByRecursion IsStep steps → IsConsistent spec_of state → Heard spec_of s (inputs_there state sink) (inputs_there (stepped_by spec_of state steps) sink) (posted_by_steps spec_of sink state steps)
heard_by spec_of sink s [] state there is h = record { orderly = tt; left = refl; each = tt }
heard_by spec_of sink s (t ∷ steps) state there is h =
    heard_step spec_of state sink s there h t is.0 (inputs_there (stepped_by spec_of (stepped spec_of state t) steps) sink) (posted_by_steps spec_of sink (stepped spec_of state t) steps)
    (heard_by spec_of sink s steps (stepped spec_of state t) (ap (λ sinks. slice_get sinks sink.0) (step_sinks spec_of state t) ∙ there) is.1 (step_keeps spec_of state t is.0 h))

-- ---- some steps after others

pub posted_joined : {P : Type 0} (spec_of : P → SampleSpec) (sink : SinkId) (earlier later : List (Step P)) (state : State P) → posted_by_steps spec_of sink state (earlier ++ later) ≡ posted_by_steps spec_of sink state earlier ++ posted_by_steps spec_of sink (stepped_by spec_of state earlier) later
posted_joined spec_of sink [] later state = refl
posted_joined spec_of sink (s ∷ earlier) later state =
    ap (λ messages. posted_by_step sink state s ++ messages) (posted_joined spec_of sink earlier later (stepped spec_of state s))
    ∙ sym (append_assoc (posted_by_step sink state s) (posted_by_steps spec_of sink (stepped spec_of state s) earlier) (posted_by_steps spec_of sink (stepped_by spec_of (stepped spec_of state s) earlier) later))

step_posts_nothing : {P : Type 0} (sink : SinkId) (state : State P) (s : Step P) → Spares sink s → posted_by_step sink state s ≡ []
step_posts_nothing sink state (connect conn) h = refl
step_posts_nothing sink state (frame conn f) h = refl
step_posts_nothing sink state (broken conn fault at) h = refl
step_posts_nothing sink state (close conn) h = refl
step_posts_nothing sink state (cut conn) h = refl
step_posts_nothing sink state sweep h = refl
step_posts_nothing sink state (notice from n) h = refl
step_posts_nothing sink state (out to) h = cond-false (nat_eq to.0 sink.0) (option_to_list (next_for state to)) [] (ne_eqb to.0 sink.0 h)

-- steps that hand out nothing to the sink
pub nothing_posted : {P : Type 0} (spec_of : P → SampleSpec) (sink : SinkId) (steps : List (Step P)) (state : State P) → AllByRecursion (Spares sink) steps → posted_by_steps spec_of sink state steps ≡ []
nothing_posted spec_of sink [] state h = refl
nothing_posted spec_of sink (s ∷ steps) state h = (λ i. step_posts_nothing sink state s h.0 i ++ nothing_posted spec_of sink steps (stepped spec_of state s) h.1 i)

-- and steps that do nothing else
pub outs : {P : Type 0} (spec_of : P → SampleSpec) (sink : SinkId) (n : ℕ) (state : State P) → stepped_by spec_of state (replicate n (out sink)) ≡ handed_out_by n sink state
outs spec_of sink zero state = refl
outs spec_of sink (suc n) state = outs spec_of sink n (handed_out sink state)

outs_posted : {P : Type 0} (spec_of : P → SampleSpec) (sink : SinkId) (n : ℕ) (state : State P) → posted_by_steps spec_of sink state (replicate n (out sink)) ≡ messages_out n sink state
outs_posted spec_of sink zero state = refl
outs_posted spec_of sink (suc n) state =
    ap (λ messages. messages ++ posted_by_steps spec_of sink (handed_out sink state) (replicate n (out sink))) (cond-true (nat_eq sink.0 sink.0) (option_to_list (next_for state sink)) [] (eq-eqb sink.0 sink.0 refl))
    ∙ ap (λ messages. option_to_list (next_for state sink) ++ messages) (outs_posted spec_of sink n (handed_out sink state))

pub outs_take : {P : Type 0} (spec_of : P → SampleSpec) (sink : SinkId) (n : ℕ) (state : State P) → IsConsistent spec_of state → posted_by_steps spec_of sink state (replicate n (out sink)) ≡ take n (waiting_for state sink)
outs_take spec_of sink n state h = outs_posted spec_of sink n state ∙ (all_out spec_of state sink h.steady n (waiting_for state sink) refl).messages
