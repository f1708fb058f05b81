-- Calls that a pass has written down, and where they stop.
use Rattle.std.proofs.Common.{◌≡◌, Bool, true, false, true≢false, List, [], ◌∷◌, ◌++◌, map, set, Option, Some, None, Result, Ok, Err, ap, sym, subst, ◌∙◌, append_assoc, inl, inr}
use Rattle.std.specs.Prelude.{◌⊎◌, slice_get, IfOk}
use Rattle.std.proofs.lemmas.List.{append-nil, map-set}
use Rattle.std.proofs.lemmas.Option.{same_Some}
use Rattle.px_mail.specs.Mailbox.{LastFails}
use Rattle.px_types.specs.declared.ids.SinkId.{SinkId}
use Rattle.px_annals.specs.declared.stream.PlainStream.{PlainStream}
use Rattle.px_state.specs.declared.effect.Effect.{Effect}
use Rattle.px_state.specs.State.{State}
use Rattle.px_state.specs.Out.{waiting_for}
use Rattle.px_core_cell.specs.declared.ends.CoreEnd.{CoreEnd}
use Rattle.px_core_cell.specs.declared.step.CoreStep.{CoreStep}
use Rattle.px_core_cell.specs.declared.step.CoreStep.TheVariants as asked
use Rattle.px_core_cell.specs.declared.step.StepFault.{StepFault}
use Rattle.px_core_cell.specs.Cell.{Calls, calls_of}
use Rattle.px_core_cell.specs.Step.{is_own, HandsOut, StopsAt, Stops, OutStops, NoticeStops}
use Rattle.px_core_cell.proofs.Places.{there}

-- ---- one pass

abbrev pub GoesOnWith : List Bool → List Bool → Type 0
GoesOnWith before after = (calls : List Bool) × (after ≡ before ++ calls)

pub one_call : (before after after' : List Bool) (b : Bool) → GoesOnWith before after → after' ≡ after ++ b ∷ [] → GoesOnWith before after'
one_call before after after' b h e = (h.0 ++ b ∷ [], e ∙ ap (λ l. l ++ b ∷ []) h.1 ∙ append_assoc before h.0 (b ∷ []))

pub last_fails : (before after after' : List Bool) → GoesOnWith before after → after' ≡ after ++ false ∷ [] → LastFails before after'
last_fails before after after' h e = (h.0, e ∙ ap (λ l. l ++ false ∷ []) h.1)

pub one_fails : (before after : List Bool) → after ≡ before ++ false ∷ [] → LastFails before after
one_fails before after e = ([], e ∙ ap (λ l. l ++ false ∷ []) (sym (append-nil before)))

-- messages were posted up to one that found the inbox full, or to the last
pub hands_out : (sink : SinkId) (state : State PlainStream) (before after after' : Calls) → GoesOnWith before.stored after.stored → (waiting_for state sink ≡ []) ⊎ (after'.stored ≡ after.stored ++ false ∷ []) → HandsOut sink state before after'
hands_out sink state before after after' h (inl none) = inl none
hands_out sink state before after after' h (inr e) = inr (last_fails before.stored after.stored after'.stored h e)

-- ---- the passes of one sink among all

at_sink : (sink : SinkId) (ends : List CoreEnd) (e f : CoreEnd) (Fact : Calls → Calls → Type 0) → slice_get (map calls_of ends) sink.0 ≡ Some (calls_of e) → Fact (calls_of e) (calls_of f)
    → (b c : Calls) → slice_get (map calls_of ends) sink.0 ≡ Some b → slice_get (map calls_of (set ends sink.0 f)) sink.0 ≡ Some c → Fact b c
at_sink sink ends e f Fact here h b c was is =
    let now : slice_get (set (map calls_of ends) sink.0 (calls_of f)) sink.0 ≡ Some c = ap (λ (l : List Calls). slice_get l sink.0) (sym (map-set calls_of ends sink.0 f)) ∙ is in
    subst (λ (p : Calls × Calls). Fact p.0 p.1) (λ i. (same_Some (calls_of e) b (sym here ∙ was) i, there (map calls_of ends) sink.0 (calls_of f) c now i)) h

pub notice_stops : (sink : SinkId) (state : State PlainStream) (ends : List CoreEnd) (e f : CoreEnd) (result : Result (Option (List Effect)) StepFault) → slice_get (map calls_of ends) sink.0 ≡ Some (calls_of e) → NoticeStops (calls_of e) (calls_of f) result
    → Stops (asked.Notice sink) state (map calls_of ends) (map calls_of (set ends sink.0 f)) result
notice_stops sink state ends e f (Ok (Some effects)) here h = tt
notice_stops sink state ends e f (Ok None) here h = at_sink sink ends e f (λ b c. LastFails b.found c.found) here h
notice_stops sink state ends e f (Err fault) here h = tt

pub out_stops : (sink : SinkId) (state : State PlainStream) (ends : List CoreEnd) (e f : CoreEnd) (result : Result (List Effect) StepFault) → slice_get (map calls_of ends) sink.0 ≡ Some (calls_of e) → OutStops sink state (calls_of e) (calls_of f) result
    → IfOk result (λ effects. Stops (asked.Out sink) state (map calls_of ends) (map calls_of (set ends sink.0 f)) (Ok (Some effects)))
out_stops sink state ends e f (Ok effects) here h = at_sink sink ends e f (λ b c. HandsOut sink state b c) here h
out_stops sink state ends e f (Err fault) here h = tt

-- to a sink that isn't there
pub nowhere_stops : (sink : SinkId) (state : State PlainStream) (calls : List Calls) (result : Result (List Effect) StepFault) → ((b : Calls) → slice_get calls sink.0 ≡ Some b → ⊥) → IfOk result (λ effects. Stops (asked.Out sink) state calls calls (Ok (Some effects)))
nowhere_stops sink state calls (Ok effects) none = λ b c was is. absurd (none b was)
nowhere_stops sink state calls (Err fault) none = tt

-- a step that no sink has a part in
pub own_stops : (step : CoreStep) (state : State PlainStream) (before after : List Calls) → is_own step ≡ true → StopsAt step state before after
own_stops (asked.Connect conn) state before after own = tt
own_stops (asked.Frame conn f) state before after own = tt
own_stops (asked.Broken conn fault at) state before after own = tt
own_stops (asked.Close conn) state before after own = tt
own_stops (asked.Cut conn) state before after own = tt
own_stops asked.Sweep state before after own = tt
own_stops (asked.Notice sink) state before after own = absurd (true≢false (sym own))
own_stops (asked.Out sink) state before after own = absurd (true≢false (sym own))
