-- What steps tell that change nothing, and a client that connects.
use Rattle.std.proofs.Common.{◌≡◌, ◌≤◌, arith, get_or, true, false, List, [], ◌∷◌, ◌++◌, Option, Some, None, ap, sym, ◌∙◌}
use Rattle.std.specs.Prelude.{cond}
use Rattle.std.specs.List.{AllByRecursion}
use Rattle.std.specs.Option.{is_some, option_map}
use Rattle.std.proofs.lemmas.Bool.{cond_both, false≢true}
use Rattle.px_types.specs.declared.ids.ConnId.{ConnId}
use Rattle.px_outcome.specs.declared.input.Connection.{Connection}
use Rattle.px_outcome.specs.declared.sending.Reason.TheVariants.{Limit}
use Rattle.px_outcome.specs.Outcome.{idle}
use Rattle.px_subscribe.specs.declared.announce.Subscriber.{Subscriber}
use Rattle.px_subscribe.specs.declared.event.Event.{Event}
use Rattle.px_subscribe.specs.Event.{message_of, hears}
use Rattle.px_subscribe.specs.Announce.{notified_to, announced, announced_all}
use Rattle.px_outcome.specs.declared.sending.Sending.{Sending}
use Rattle.px_tag.specs.Item.{number}
use Rattle.px_state.specs.declared.effect.Effect.{Effect}
use Rattle.px_state.specs.Effect.{closed_for}
use Rattle.px_state.specs.State.{State}
use Rattle.px_core.specs.Connecting.{is_full, joined}
use Rattle.px_state.specs.Events.{step_events}
use Rattle.px_state.specs.Outcome.{CoreOutcome}
use Rattle.px_core.specs.Step.{answer_effects, admitted_effects}
use Rattle.px_core.proofs.ListLaws.{all_joined}
use Rattle.px_state.proofs.SceneLaws.{none_events}

pub idle_effects : (P : Type 0) (asker : Option ConnId) (state : State P) → answer_effects asker state idle ≡ []
idle_effects P asker state = none_events state

pub ignored : (P : Type 0) (asker : Option ConnId) (state : State P) (outcome : CoreOutcome P) (effects : List Effect) → effects ≡ [] → outcome ≡ idle → effects ≡ answer_effects asker state outcome
ignored P asker state outcome effects e p = e ∙ sym (idle_effects P asker state) ∙ ap (λ (x : CoreOutcome P). answer_effects asker state x) (sym p)

pub admitted_there : (P : Type 0) (c : Connection) (conn : ConnId) (state : State P) → admitted_effects (Some c) conn state ≡ []
admitted_there P c conn state = none_events state

pub admitted_full : (P : Type 0) (conn : ConnId) (state : State P) → is_full state ≡ true → admitted_effects None conn state ≡ closed_for conn Limit ∷ []
admitted_full P conn state e =
    ap (λ b. cond b (closed_for conn Limit ∷ []) [] ++ step_events state (cond b state (joined conn state))) e
    ∙ ap (λ (l : List Effect). closed_for conn Limit ∷ l) (none_events state)

pub admitted_joined : (P : Type 0) (conn : ConnId) (state : State P) → is_full state ≡ false → admitted_effects None conn state ≡ step_events state (joined conn state)
admitted_joined P conn state e = ap (λ b. cond b (closed_for conn Limit ∷ []) [] ++ step_events state (cond b state (joined conn state))) e

-- ---- as code asks for them

pub is_there : {A B : Type 0} (f : A → B) (found : Option A) (o : Option B) → option_map f found ≡ o → is_some found ≡ true → is_some o ≡ true
is_there f None o e t = absurd (false≢true t)
is_there f (Some a) o e t = ap (λ x. is_some x) (sym e)

pub isnt_there : {A B : Type 0} (f : A → B) (found : Option A) (o : Option B) → option_map f found ≡ o → is_some found ≡ false → o ≡ None
isnt_there f None o e t = sym e
isnt_there f (Some a) o e t = absurd (false≢true (sym t))

pub there_admitted : (P : Type 0) (o : Option Connection) (conn : ConnId) (state : State P) (effects : List Effect) → is_some o ≡ true → effects ≡ [] → effects ≡ admitted_effects o conn state
there_admitted P None conn state effects t e = absurd (false≢true t)
there_admitted P (Some c) conn state effects t e = e ∙ sym (admitted_there P c conn state)

pub full_admitted : (P : Type 0) (o : Option Connection) (conn : ConnId) (state : State P) (closed : Effect) (effects : List Effect) → o ≡ None → is_full state ≡ true → closed ≡ closed_for conn Limit → effects ≡ closed ∷ [] → effects ≡ admitted_effects o conn state
full_admitted P o conn state closed effects none full c e = e ∙ ap (λ (x : Effect). x ∷ []) c ∙ sym (admitted_full P conn state full) ∙ ap (λ (x : Option Connection). admitted_effects x conn state) (sym none)

pub joined_admitted : (P : Type 0) (o : Option Connection) (conn : ConnId) (state : State P) (effects : List Effect) → o ≡ None → is_full state ≡ false → effects ≡ step_events state (joined conn state) → effects ≡ admitted_effects o conn state
joined_admitted P o conn state effects none full e = e ∙ sym (admitted_joined P conn state full) ∙ ap (λ (x : Option Connection). admitted_effects x conn state) (sym none)

-- ---- events are no errors

-- the byte that tells a message's command
event_byte : (e : Event) → 1 ≤ get_or (message_of e) 4 0
unfolding number
event_byte e = omega arith

notified_no_error : (e : Event) (s : Subscriber) → AllByRecursion (λ (x : Sending). 1 ≤ get_or x.packet 4 0) (notified_to e s)
notified_no_error e s = cond_both (hears s.mask e.facility) (record { conn = s.conn; packet = message_of e } ∷ []) [] (AllByRecursion (λ (x : Sending). 1 ≤ get_or x.packet 4 0)) (λ t. (event_byte e, tt)) (λ t. tt)

event_no_error : (subscribers : List Subscriber) (e : Event) → AllByRecursion (λ (x : Sending). 1 ≤ get_or x.packet 4 0) (announced subscribers e)
event_no_error [] e = tt
event_no_error (s ∷ subscribers) e = all_joined (λ (x : Sending). 1 ≤ get_or x.packet 4 0) (notified_to e s) (announced subscribers e) (notified_no_error e s) (event_no_error subscribers e)

pub events_no_error : (subscribers : List Subscriber) (events : List Event) → AllByRecursion (λ (x : Sending). 1 ≤ get_or x.packet 4 0) (announced_all subscribers events)
events_no_error subscribers [] = tt
events_no_error subscribers (e ∷ events) = all_joined (λ (x : Sending). 1 ≤ get_or x.packet 4 0) (announced subscribers e) (announced_all subscribers events) (event_no_error subscribers e) (events_no_error subscribers events)
