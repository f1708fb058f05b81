-- The events of a step, as code adds them to its effects.
use Rattle.std.proofs.Common.{◌≡◌, ◌+◌, true, List, [], ◌∷◌, ◌++◌, Option, None, ap, sym, subst, ◌∙◌}
use Rattle.std.proofs.lemmas.List.{append-nil}
use Rattle.px_types.specs.declared.ids.ConnId.{ConnId}
use Rattle.px_types.specs.declared.ids.InputId.{InputId}
use Rattle.px_flat.specs.FlatVolume.{FlatGroup}
use Rattle.px_msg.specs.declared.message.Msg.{Msg}
use Rattle.px_msg.specs.declared.message.Msg.TheVariants.{Attach}
use Rattle.px_outcome.specs.declared.change.Change.TheVariants.{Arrives}
use Rattle.px_outcome.specs.declared.sending.Sending.{Sending}
use Rattle.px_header.specs.declared.header.SinkSpec.{SinkSpec}
use Rattle.px_subscribe.specs.Scene.{Scene, scene_after, scene_arrived, scene_joined, are_quiet, are_deaf, nobody_hears}
use Rattle.px_subscribe.specs.Moments.{AreShown, notified_between}
use Rattle.px_state.specs.declared.effect.Effect.{Effect}
use Rattle.px_state.specs.State.{State}
use Rattle.px_state.specs.Change.{Change, committed}
use Rattle.px_state.specs.Change.{joined}
use Rattle.px_state.specs.Outcome.{CoreOutcome, sent_all, closed_all, outcome_effects}
use Rattle.px_state.specs.Events.{scene_of, step_events}
use Rattle.px_ctl_play.specs.Arrival.{Arriving, arriving_with}
use Rattle.px_state.specs.Answered.{answered, answer_effects}
use Rattle.px_state.proofs.SceneLaws.{changes_scene, events_are, changes_events, quiet_events, deaf_events, deaf_joins}

pub none_added : (effects more : List Effect) → more ≡ [] → effects ≡ effects ++ more
none_added effects more e = sym (append-nil effects) ∙ ap (λ (l : List Effect). effects ++ l) (sym e)

pub quiet_added : (P : Type 0) (effects : List Effect) (state : State P) (changes : List (Change P)) → are_quiet changes ≡ true → effects ≡ effects ++ step_events state (committed state changes)
quiet_added P effects state changes e = none_added effects (step_events state (committed state changes)) (quiet_events state changes e)

pub deaf_added : (P : Type 0) (effects : List Effect) (state : State P) (changes : List (Change P)) → nobody_hears state.names.clients changes ≡ true → effects ≡ effects ++ step_events state (committed state changes)
deaf_added P effects state changes e = none_added effects (step_events state (committed state changes)) (deaf_events state changes e)

pub changes_added : (P : Type 0) (old new : List Effect) (state : State P) (changes : List (Change P)) (sinks : List SinkSpec) (scene : Scene) (notified : List Sending) → sinks ≡ state.sinks → scene ≡ scene_of state
    → notified ≡ notified_between sinks state.clients_made scene (scene_after scene changes) → new ≡ old ++ sent_all notified → new ≡ old ++ step_events state (committed state changes)
changes_added P old new state changes sinks scene notified there s e added =
    added
    ∙ ap (λ (l : List Sending). old ++ sent_all l) (e ∙ (λ k. notified_between (there k) state.clients_made (s k) (scene_after (s k) changes)))
    ∙ ap (λ (l : List Effect). old ++ l) (sym (changes_events state changes))

pub arrival_added : (P : Type 0) (old new : List Effect) (state : State P) (input : InputId) (later : List (Change P)) (sinks : List SinkSpec) (scene : Scene) (notified : List Sending) → sinks ≡ state.sinks → scene ≡ scene_of state
    → notified ≡ notified_between sinks state.clients_made scene (scene_after (scene_arrived input scene) later) → new ≡ old ++ sent_all notified
    → (m : Msg P) → new ≡ old ++ step_events state (committed state (Arrives input m ∷ later))
arrival_added P old new state input later sinks scene notified there s e added m =
    added
    ∙ ap (λ (l : List Sending). old ++ sent_all l) (e ∙ (λ k. notified_between (there k) state.clients_made (s k) (scene_after (scene_arrived input (s k)) later)))
    ∙ ap (λ (l : List Effect). old ++ l) (sym (changes_events state (Arrives input m ∷ later)))

-- ---- the inputs that infos show

pub scene_shown : (P : Type 0) (state : State P) (scene : Scene) → scene ≡ scene_of state → AreShown state.inputs → AreShown scene.inputs
scene_shown P state scene s h = subst (λ t. AreShown (Scene.inputs t)) (sym s) h

pub changes_shown : (P : Type 0) (state : State P) (changes : List (Change P)) (scene : Scene) → scene ≡ scene_of state → AreShown (State.inputs (committed state changes)) → AreShown (Scene.inputs (scene_after scene changes))
changes_shown P state changes scene s h = subst (λ t. AreShown (Scene.inputs t)) (changes_scene state changes ∙ ap (λ t. scene_after t changes) (sym s)) h

pub arrived_shown : (P : Type 0) (state : State P) (input : InputId) (later : List (Change P)) (scene : Scene) → scene ≡ scene_of state → AreShown (Scene.inputs (scene_after (scene_arrived input (scene_of state)) later))
    → AreShown (Scene.inputs (scene_after (scene_arrived input scene) later))
arrived_shown P state input later scene s h = subst (λ t. AreShown (Scene.inputs (scene_after (scene_arrived input t) later))) (sym s) h

pub arrival_shown : (P : Type 0) (state : State P) (input : InputId) (m : Msg P) (later : List (Change P)) → AreShown (State.inputs (committed state (Arrives input m ∷ later)))
    → AreShown (Scene.inputs (scene_after (scene_arrived input (scene_of state)) later))
arrival_shown P state input m later h = subst (λ t. AreShown (Scene.inputs t)) (changes_scene state (Arrives input m ∷ later)) h

pub deaf_joined : (P : Type 0) (state : State P) (conn : ConnId) (effects : List Effect) → effects ≡ [] → are_deaf state.names.clients ≡ true → effects ≡ step_events state (joined conn state)
deaf_joined P state conn effects none e = none ∙ sym (deaf_joins state conn e)

pub join_added : (P : Type 0) (old new : List Effect) (state : State P) (conn : ConnId) (sinks : List SinkSpec) (scene : Scene) (notified : List Sending) → old ≡ [] → sinks ≡ state.sinks → scene ≡ scene_of state
    → notified ≡ notified_between sinks (state.clients_made + 1) scene (scene_joined conn state.clients_made scene) → new ≡ old ++ sent_all notified → new ≡ step_events state (joined conn state)
join_added P old new state conn sinks scene notified none there s e added =
    added
    ∙ ap (λ (l : List Effect). l ++ sent_all notified) none
    ∙ ap (λ (l : List Sending). sent_all l) (e ∙ (λ k. notified_between (there k) (state.clients_made + 1) (s k) (scene_joined conn state.clients_made (s k))))
    ∙ sym (events_are state (joined conn state))

-- ---- all effects of an outcome

pub answer_added : (P : Type 0) (asker : Option ConnId) (state : State P) (outcome : CoreOutcome P) (old new : List Effect) (changes : List (Change P)) → old ≡ outcome_effects asker outcome → changes ≡ outcome.changes
    → new ≡ old ++ step_events state (committed state changes) → new ≡ answer_effects asker state outcome
answer_added P asker state outcome old new changes e same added = added ∙ (λ k. e k ++ step_events state (committed state (same k)))

-- of the input that arrives no connection ends
pub arrival_answered : (P : Type 0) (state : State P) (input : InputId) (made : Arriving (Msg P) FlatGroup) (notified : List Sending) (changes later : List (Change P)) (old new : List Effect)
    → notified ≡ made.notified → changes ≡ made.later → later ≡ made.later → old ≡ sent_all notified ++ closed_all changes
    → ((m : Msg P) → new ≡ old ++ step_events state (committed state (Arrives input m ∷ later))) → (parcel : P) → new ≡ answer_effects None state (arriving_with input parcel made)
arrival_answered P state input made notified changes later old new t c l e added parcel =
    added (Attach input parcel made.feed made.factors)
    ∙ (λ k. e k ++ step_events state (committed state (Arrives input (Attach input parcel made.feed made.factors) ∷ l k)))
    ∙ (λ k. (sent_all (t k) ++ closed_all (c k)) ++ step_events state (answered state (arriving_with input parcel made)))
