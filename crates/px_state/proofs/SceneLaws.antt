-- What infos and subscriptions read of the state after changes is what the changes make of what they read before.
use Rattle.std.proofs.Common.{◌≡◌, ℕ, ◌+◌, Bool, true, false, List, [], ◌∷◌, Option, Some, None, refl, ap, ◌∙◌}
use Rattle.std.specs.Prelude.{cond, nat_lt, length}
use Rattle.std.specs.List.{find}
use Rattle.px_types.specs.declared.ids.ConnId.{ConnId}
use Rattle.px_types.specs.declared.ids.SinkId.{SinkId}
use Rattle.px_msg.specs.declared.message.Msg.{Msg}
use Rattle.px_outcome.specs.declared.input.Input.{Input}
use Rattle.px_outcome.specs.declared.input.Standing.{Standing}
use Rattle.px_outcome.specs.declared.input.Standing.TheVariants.{Settled, Moving, Leaving}
use Rattle.px_outcome.specs.declared.change.Change.TheVariants.{Authed, Named, Masked, Defaulted, Made, Described, Leaves, Moves, Arrives, Released, Posted, Regrouped, Asked, Answered, Gone, Ended, Forgotten}
use Rattle.px_header.specs.declared.header.SinkSpec.{SinkSpec}
use Rattle.px_subscribe.specs.Moments.{info_lists_of, notified_between}
use Rattle.px_subscribe.proofs.Unchanged.{none_since, quiet_notifies_nobody}
use Rattle.px_subscribe.proofs.Deaf.{deaf_changes, deaf_joined}
use Rattle.px_subscribe.specs.Scene.{Scene, scene_at, are_quiet, are_deaf, nobody_hears, left_by, left_of, sent_by, sent_of, come_by, come_of, inputs_posted_to, inputs_posted_if_there, scene_changed, scene_after}
use Rattle.px_state.specs.declared.delayed.Delayed.{Delayed}
use Rattle.px_state.specs.Delayed.{is_of}
use Rattle.px_state.specs.State.{State, input_of}
use Rattle.px_state.specs.Change.{Change, ending, ending_of, departs, departs_of, arrives, arrives_of, posting_to_input, posting_if_there, releasing, releasing_of, changed, committed}
use Rattle.px_state.specs.Outcome.{sent_all}
use Rattle.px_state.specs.Change.{joined}
use Rattle.px_state.specs.Events.{scene_of, step_events}

-- the scene with other inputs
abbrev with_inputs : List Input → Scene → Scene
with_inputs inputs s = record s { inputs = inputs }

ends_scene : {P : Type 0} (standing : Standing) (x : Input) (state : State P) → scene_of (ending standing x state) ≡ with_inputs (left_by standing x state.inputs) (scene_of state)
ends_scene Settled x state = refl
ends_scene (Moving to) x state = refl
ends_scene Leaving x state = refl

ended_scene : {P : Type 0} (o : Option Input) (state : State P) → scene_of (ending_of o state) ≡ with_inputs (left_of o state.inputs) (scene_of state)
ended_scene None state = refl
ended_scene (Some x) state = ends_scene x.standing x state

departs_scene : {P : Type 0} (to : SinkId) (standing : Standing) (x : Input) (state : State P) → scene_of (departs to standing x state) ≡ with_inputs (sent_by to standing x state.inputs) (scene_of state)
departs_scene to Settled x state = refl
departs_scene to (Moving on) x state = refl
departs_scene to Leaving x state = refl

departed_scene : {P : Type 0} (to : SinkId) (o : Option Input) (state : State P) → scene_of (departs_of to o state) ≡ with_inputs (sent_of to o state.inputs) (scene_of state)
departed_scene to None state = refl
departed_scene to (Some x) state = departs_scene to x.standing x state

arrives_scene : {P : Type 0} (standing : Standing) (x : Input) (m : Msg P) (state : State P) → scene_of (arrives standing x m state) ≡ with_inputs (come_by standing x state.inputs) (scene_of state)
arrives_scene Settled x m state = refl
arrives_scene (Moving to) x m state = refl
arrives_scene Leaving x m state = refl

arrived_scene : {P : Type 0} (o : Option Input) (m : Msg P) (state : State P) → scene_of (arrives_of o m state) ≡ with_inputs (come_of o state.inputs) (scene_of state)
arrived_scene None m state = refl
arrived_scene (Some x) m state = arrives_scene x.standing x m state

posting_scene : {P : Type 0} (standing : Standing) (x : Input) (m : Msg P) (state : State P) → scene_of (posting_to_input standing x m state) ≡ with_inputs (inputs_posted_to standing x m state.inputs) (scene_of state)
posting_scene Settled x m state = refl
posting_scene (Moving to) x m state = refl
posting_scene Leaving x m state = refl

posted_scene : {P : Type 0} (o : Option Input) (m : Msg P) (state : State P) → scene_of (posting_if_there o m state) ≡ with_inputs (inputs_posted_if_there o m state.inputs) (scene_of state)
posted_scene None m state = refl
posted_scene (Some x) m state = posting_scene x.standing x m state

releases_scene : {P : Type 0} (x : Input) (o : Option (Delayed P)) (state : State P) → scene_of (releasing x o state) ≡ scene_of state
releases_scene x None state = refl
releases_scene x (Some d) state = refl

released_scene : {P : Type 0} (o : Option Input) (state : State P) → scene_of (releasing_of o state) ≡ scene_of state
released_scene None state = refl
released_scene (Some x) state = releases_scene x (find (is_of x.index) state.delayed) state

defaulted_scene : {P : Type 0} (sink : SinkId) (state : State P)
    → scene_of (changed state (Defaulted sink)) ≡ record (scene_of state) { fallback = cond (nat_lt sink.0 (length state.names.sinks)) sink state.names.fallback }
defaulted_scene sink state = by (nat_lt sink.0 (length state.names.sinks))
  where
    by : (b : Bool)
        → scene_at (cond b (record state.names { fallback = sink }) state.names) state.connections state.inputs state.lists state.groups state.inputs_made
        ≡ record (scene_of state) { fallback = cond b sink state.names.fallback }
    by true = refl
    by false = refl

pub change_scene : {P : Type 0} (state : State P) (c : Change P) → scene_of (changed state c) ≡ scene_changed (scene_of state) c
change_scene state (Authed conn version) = refl
change_scene state (Named conn list) = refl
change_scene state (Masked conn mask) = refl
change_scene state (Defaulted sink) = defaulted_scene sink state
change_scene state (Made x m streams inputs) = refl
change_scene state (Described index list) = refl
change_scene state (Leaves index) = ended_scene (input_of state.inputs index) state
change_scene state (Moves index to) = departed_scene to (input_of state.inputs index) state
change_scene state (Arrives index m) = arrived_scene (input_of state.inputs index) m state
change_scene state (Released index) = released_scene (input_of state.inputs index) state
change_scene state (Posted index m) = posted_scene (input_of state.inputs index) m state
change_scene state (Regrouped sink group m) = refl
change_scene state (Asked w) = refl
change_scene state (Answered w) = refl
change_scene state (Gone index) = refl
change_scene state (Ended conn reason fault at) = refl
change_scene state (Forgotten conn) = refl

pub changes_scene : {P : Type 0} (state : State P) (changes : List (Change P)) → scene_of (committed state changes) ≡ scene_after (scene_of state) changes
changes_scene state [] = refl
changes_scene state (c ∷ changes) = changes_scene (changed state c) changes ∙ ap (λ s. scene_after s changes) (change_scene state c)

-- ---- nor do the sinks change, nor how many clients were ever made

abbrev rest_of : {P : Type 0} → State P → List SinkSpec × ℕ
rest_of state = (state.sinks, state.clients_made)

ends_rest : {P : Type 0} (standing : Standing) (x : Input) (state : State P) → rest_of (ending standing x state) ≡ rest_of state
ends_rest Settled x state = refl
ends_rest (Moving to) x state = refl
ends_rest Leaving x state = refl

ended_rest : {P : Type 0} (o : Option Input) (state : State P) → rest_of (ending_of o state) ≡ rest_of state
ended_rest None state = refl
ended_rest (Some x) state = ends_rest x.standing x state

departs_rest : {P : Type 0} (to : SinkId) (standing : Standing) (x : Input) (state : State P) → rest_of (departs to standing x state) ≡ rest_of state
departs_rest to Settled x state = refl
departs_rest to (Moving on) x state = refl
departs_rest to Leaving x state = refl

departed_rest : {P : Type 0} (to : SinkId) (o : Option Input) (state : State P) → rest_of (departs_of to o state) ≡ rest_of state
departed_rest to None state = refl
departed_rest to (Some x) state = departs_rest to x.standing x state

arrives_rest : {P : Type 0} (standing : Standing) (x : Input) (m : Msg P) (state : State P) → rest_of (arrives standing x m state) ≡ rest_of state
arrives_rest Settled x m state = refl
arrives_rest (Moving to) x m state = refl
arrives_rest Leaving x m state = refl

arrived_rest : {P : Type 0} (o : Option Input) (m : Msg P) (state : State P) → rest_of (arrives_of o m state) ≡ rest_of state
arrived_rest None m state = refl
arrived_rest (Some x) m state = arrives_rest x.standing x m state

posting_rest : {P : Type 0} (standing : Standing) (x : Input) (m : Msg P) (state : State P) → rest_of (posting_to_input standing x m state) ≡ rest_of state
posting_rest Settled x m state = refl
posting_rest (Moving to) x m state = refl
posting_rest Leaving x m state = refl

posted_rest : {P : Type 0} (o : Option Input) (m : Msg P) (state : State P) → rest_of (posting_if_there o m state) ≡ rest_of state
posted_rest None m state = refl
posted_rest (Some x) m state = posting_rest x.standing x m state

releases_rest : {P : Type 0} (x : Input) (o : Option (Delayed P)) (state : State P) → rest_of (releasing x o state) ≡ rest_of state
releases_rest x None state = refl
releases_rest x (Some d) state = refl

released_rest : {P : Type 0} (o : Option Input) (state : State P) → rest_of (releasing_of o state) ≡ rest_of state
released_rest None state = refl
released_rest (Some x) state = releases_rest x (find (is_of x.index) state.delayed) state

change_rest : {P : Type 0} (state : State P) (c : Change P) → rest_of (changed state c) ≡ rest_of state
change_rest state (Authed conn version) = refl
change_rest state (Named conn list) = refl
change_rest state (Masked conn mask) = refl
change_rest state (Defaulted sink) = refl
change_rest state (Made x m streams inputs) = refl
change_rest state (Described index list) = refl
change_rest state (Leaves index) = ended_rest (input_of state.inputs index) state
change_rest state (Moves index to) = departed_rest to (input_of state.inputs index) state
change_rest state (Arrives index m) = arrived_rest (input_of state.inputs index) m state
change_rest state (Released index) = released_rest (input_of state.inputs index) state
change_rest state (Posted index m) = posted_rest (input_of state.inputs index) m state
change_rest state (Regrouped sink group m) = refl
change_rest state (Asked w) = refl
change_rest state (Answered w) = refl
change_rest state (Gone index) = refl
change_rest state (Ended conn reason fault at) = refl
change_rest state (Forgotten conn) = refl

changes_rest : {P : Type 0} (state : State P) (changes : List (Change P)) → rest_of (committed state changes) ≡ rest_of state
changes_rest state [] = refl
changes_rest state (c ∷ changes) = changes_rest (changed state c) changes ∙ change_rest state c

-- ---- events

pub events_are : {P : Type 0} (before after : State P) → step_events before after ≡ sent_all (notified_between before.sinks after.clients_made (scene_of before) (scene_of after))
unfolding step_events
events_are before after = refl

-- what changes tell is reckoned without making them
pub changes_events : {P : Type 0} (state : State P) (changes : List (Change P))
    → step_events state (committed state changes) ≡ sent_all (notified_between state.sinks state.clients_made (scene_of state) (scene_after (scene_of state) changes))
changes_events state changes = events_are state (committed state changes) ∙ (λ k. sent_all (notified_between state.sinks (changes_rest state changes k).1 (scene_of state) (changes_scene state changes k)))

-- changes of nothing that is told tell nobody anything
pub quiet_events : {P : Type 0} (state : State P) (changes : List (Change P)) → are_quiet changes ≡ true → step_events state (committed state changes) ≡ []
quiet_events state changes e =
    changes_events state changes ∙ ap (λ notified. sent_all notified) (quiet_notifies_nobody state.sinks state.clients_made (scene_of state) changes e)

-- nor does what changes nothing
pub none_events : {P : Type 0} (state : State P) → step_events state state ≡ []
none_events state = events_are state state ∙ ap (λ notified. sent_all notified) (none_since state.sinks state.clients_made (info_lists_of state.sinks (scene_of state)) (scene_of state) refl)

-- nor does anything where nobody hears of anything
pub deaf_events : {P : Type 0} (state : State P) (changes : List (Change P)) → nobody_hears state.names.clients changes ≡ true → step_events state (committed state changes) ≡ []
deaf_events state changes e =
    changes_events state changes ∙ ap (λ notified. sent_all notified) (deaf_changes state.sinks state.clients_made (scene_of state) changes e)

pub deaf_joins : {P : Type 0} (state : State P) (conn : ConnId) → are_deaf state.names.clients ≡ true → step_events state (joined conn state) ≡ []
deaf_joins state conn e =
    events_are state (joined conn state) ∙ ap (λ notified. sent_all notified) (deaf_joined state.sinks (state.clients_made + 1) (scene_of state) conn state.clients_made e)
