-- The effect and the result of a step under the core's lock.
use Rattle.std.specs.Prelude.{◌≡◌, ℕ, ◌+◌, ◌-◌, ◌^◌, ◌<◌, ◌⊎◌, Bool, true, false, ◌&&◌, List, [], ◌∷◌, ◌++◌, length, replicate, slice_get, Option, None, Some, Result, Ok, Err, ⊤}
use Rattle.std.specs.Option.{option_to_list, option_or}
use Rattle.crossbeam_queue.specs.Fifo.{Held}
use Rattle.px_mail.specs.Mailbox.{IsHeldOf, LastFails}
use Rattle.px_types.specs.declared.ids.SinkId.{SinkId}
use Rattle.px_annals.specs.declared.recorder.Recorder.{Ghosts}
use Rattle.px_annals.specs.declared.entry.CoreEntry.{CoreEntry}
use Rattle.px_annals.specs.declared.stream.PlainStream.{PlainStream}
use Rattle.px_annals.specs.declared.step.PlainStep.{PlainStep}
use Rattle.px_annals.specs.declared.step.PlainStep.TheVariants as plain
use Rattle.px_annals.specs.History.{noted}
use Rattle.px_frame.specs.Frame.{IsBody}
use Rattle.px_frame.specs.Fault.{code_of}
use Rattle.px_msg.specs.declared.message.Msg.{Msg}
use Rattle.px_msg.specs.declared.notice.Notice.{Notice}
use Rattle.px_state.specs.declared.effect.Effect.{Effect}
use Rattle.px_state.specs.State.{State}
use Rattle.px_state.specs.Out.{waiting_for, next_for, handed_out}
use Rattle.px_core.specs.Hearing.{posted_by_steps}
use Rattle.px_core.specs.Step.{Step, stepped_by, effects_by}
use Rattle.px_core_cell.specs.declared.step.CoreStep.{CoreStep}
use Rattle.px_core_cell.specs.declared.step.CoreStep.TheVariants as asked
use Rattle.px_core_cell.specs.declared.step.StepFault.{StepFault}
use Rattle.px_core_cell.specs.declared.step.StepFault.TheVariants.{NoMemory, Worn, Recorder, Owed}
use Rattle.px_core_cell.specs.declared.log.StepLog.{StepLog}
use Rattle.px_core_cell.specs.Cell.{Logged, Cell, Calls, SinkEnds, logged_of}
use Rattle.px_core_cell.specs.History.{sink_at, noticed_in, owes, IsExact}
use Rattle.px_core_cell.specs.Parcel.{spec_of}
use Rattle.px_core_cell.specs.Plain.{plain_notice, plain_body, steps_of}

-- ---- the step asked for

-- a frame has a valid body
abbrev pub IsAsked : CoreStep → Type 0
IsAsked (asked.Connect conn) = ⊤
IsAsked (asked.Frame conn f) = IsBody f.body
IsAsked (asked.Broken conn fault at) = ⊤
IsAsked (asked.Close conn) = ⊤
IsAsked (asked.Cut conn) = ⊤
IsAsked asked.Sweep = ⊤
IsAsked (asked.Notice sink) = ⊤
IsAsked (asked.Out sink) = ⊤

-- a step that waits for an owed sweep
abbrev pub waits : CoreStep → Bool
waits (asked.Connect conn) = true
waits (asked.Frame conn f) = true
waits (asked.Broken conn fault at) = true
waits (asked.Close conn) = true
waits (asked.Cut conn) = true
waits asked.Sweep = false
waits (asked.Notice sink) = true
waits (asked.Out sink) = false

-- a step without a sink
abbrev pub is_own : CoreStep → Bool
is_own (asked.Connect conn) = true
is_own (asked.Frame conn f) = true
is_own (asked.Broken conn fault at) = true
is_own (asked.Close conn) = true
is_own (asked.Cut conn) = true
is_own asked.Sweep = true
is_own (asked.Notice sink) = false
is_own (asked.Out sink) = false

-- the entry of a step that was asked for: a sink's notice is the one that was taken, and the count of messages is that of those that could be posted
abbrev pub IsEntryFor : CoreStep → PlainStep → Type 0
IsEntryFor (asked.Connect conn) d = d ≡ plain.Connect conn.0
IsEntryFor (asked.Frame conn f) d = d ≡ plain.Frame conn.0 f.at (plain_body f.body)
IsEntryFor (asked.Broken conn fault at) d = d ≡ plain.Broken conn.0 (code_of fault) at
IsEntryFor (asked.Close conn) d = d ≡ plain.Close conn.0
IsEntryFor (asked.Cut conn) d = d ≡ plain.Cut conn.0
IsEntryFor asked.Sweep d = d ≡ plain.Sweep
IsEntryFor (asked.Notice sink) d = (n : Notice PlainStream) × (d ≡ plain.Notice sink.0 (plain_notice n))
IsEntryFor (asked.Out sink) d = (count : ℕ) × (d ≡ plain.Out sink.0 count)

-- ---- the step done: a step of a history, or none

abbrev pub steps_done : Option PlainStep → List (Step PlainStream)
steps_done None = []
steps_done (Some d) = steps_of d

abbrev pub noticed_done : ℕ → Option PlainStep → List (Notice PlainStream)
noticed_done index None = []
noticed_done index (Some d) = noticed_in index d

abbrev pub entered : Option PlainStep → Option (List CoreEntry) → Option (List CoreEntry)
entered None visible = visible
entered (Some d) visible = noted (record { step = d }) visible

abbrev pub owed_after : Option PlainStep → Bool → Bool
owed_after None owed = owed
owed_after (Some d) owed = owes owed d

abbrev pub IsExactDone : State PlainStream → Option PlainStep → Type 0
IsExactDone state None = ⊤
IsExactDone state (Some d) = IsExact state d

-- the ends at a sink: the messages that the step hands to it were posted to its inbox; the held and the newly taken notice are the step's notice of
-- the sink, and then the one held afterwards
pub record IsEndAfter (done : Option PlainStep) (state : State PlainStream) (index : ℕ) (e f : SinkEnds) : Type 0 where
  pub key : f.key ≡ e.key
  pub posted : f.posted ≡ e.posted ++ posted_by_steps spec_of (sink_at index) state (steps_done done)
  pub took : List (Notice PlainStream)
  pub taken : f.taken ≡ e.taken ++ took
  pub held : option_to_list e.held ++ took ≡ noticed_done index done ++ option_to_list f.held

-- the core makes the step, its recorder notes it, and it is counted; what is noted is exact in the state before
pub record LoggedDoes {C : Type 0} (visible : C → Option (List CoreEntry)) (done : Option PlainStep) (before after : Logged C) : Type 0 where
  pub state : after.state ≡ stepped_by spec_of before.state (steps_done done)
  pub visible_new : visible after.recorder ≡ entered done (visible before.recorder)
  pub steps : after.steps ≡ before.steps + length (option_to_list done)
  pub owed : after.owed ≡ owed_after done before.owed
  pub exact : IsExactDone before.state done

-- and so do the ends of each sink
pub record Does {C : Type 0} (visible : C → Option (List CoreEntry)) (done : Option PlainStep) (before after : Cell C) : Type 0 where
  pub logged : LoggedDoes visible done before.logged after.logged
  pub count : length after.ends ≡ length before.ends
  pub ends : (index : ℕ) (e f : SinkEnds) → slice_get before.ends index ≡ Some e → slice_get after.ends index ≡ Some f
      → IsEndAfter done before.logged.state index e f

-- or those of the one sink that the step is of
pub record DoesAt {C : Type 0} (visible : C → Option (List CoreEntry)) (done : Option PlainStep) (index : ℕ) (before after : Logged C) (e f : SinkEnds) : Type 0 where
  pub logged : LoggedDoes visible done before after
  pub end : IsEndAfter done before.state index e f

-- ---- the results

-- messages were handed out until the queue was empty, or the inbox held 256
abbrev pub Finishes : {C : Type 0} → CoreStep → Cell C → Type 0
Finishes (asked.Connect conn) after = ⊤
Finishes (asked.Frame conn f) after = ⊤
Finishes (asked.Broken conn fault at) after = ⊤
Finishes (asked.Close conn) after = ⊤
Finishes (asked.Cut conn) after = ⊤
Finishes asked.Sweep after = ⊤
Finishes (asked.Notice sink) after = ⊤
Finishes (asked.Out sink) after =
    (e : SinkEnds) → slice_get after.ends sink.0 ≡ Some e → (waiting_for after.logged.state sink ≡ []) ⊎ Held 256 (IsHeldOf e.posted)

-- no notice of the sink was held
abbrev pub Lacks : {C : Type 0} → CoreStep → Cell C → Type 0
Lacks (asked.Connect conn) before = ⊥
Lacks (asked.Frame conn f) before = ⊥
Lacks (asked.Broken conn fault at) before = ⊥
Lacks (asked.Close conn) before = ⊥
Lacks (asked.Cut conn) before = ⊥
Lacks asked.Sweep before = ⊥
Lacks (asked.Notice sink) before = (e : SinkEnds) → slice_get before.ends sink.0 ≡ Some e → e.held ≡ None
Lacks (asked.Out sink) before = ⊥

-- a step that was done, with its effects
pub record IsDone {C : Type 0} (visible : C → Option (List CoreEntry)) (step : CoreStep) (before after : Cell C) (effects : List Effect) : Type 0 where
  pub entry : PlainStep
  pub entry_for : IsEntryFor step entry
  pub does : Does visible (Some entry) before after
  pub effects_are : effects ≡ effects_by spec_of before.logged.state (steps_of entry)
  pub finishes : Finishes step after
  pub fault : after.logged.fault ≡ before.logged.fault

-- a step for which no sweep was owed, and that can be counted
pub record IsFree {C : Type 0} (step : CoreStep) (before : Cell C) : Type 0 where
  pub paid : before.logged.owed && waits step ≡ false
  pub countable : before.logged.steps < 2 ^ 64 - 1

-- the result of such a step
abbrev pub FreeGives : {C : Type 0} → (C → Option (List CoreEntry)) → CoreStep → Cell C → Cell C → Result (Option (List Effect)) StepFault → Type 0
FreeGives visible step before after (Ok (Some effects)) = IsDone visible step before after effects
FreeGives visible step before after (Ok None) = Lacks step before × (after ≡ before)
FreeGives visible step before after (Err NoMemory) = Does visible None before after × (after.logged.fault ≡ before.logged.fault)
FreeGives visible step before after (Err Worn) = ⊥
FreeGives visible step before after (Err (Recorder why)) = Does visible None before after × (after.logged.fault ≡ option_or before.logged.fault (Some why))
FreeGives visible step before after (Err (Owed back)) = ⊥

-- the result of any step
abbrev pub StepGives : {C : Type 0} → (C → Option (List CoreEntry)) → CoreStep → Cell C → Cell C → Result (Option (List Effect)) StepFault → Type 0
StepGives visible step before after (Ok o) = IsFree step before × FreeGives visible step before after (Ok o)
StepGives visible step before after (Err NoMemory) = IsFree step before × FreeGives visible step before after (Err NoMemory)
StepGives visible step before after (Err Worn) = (before.logged.owed && waits step ≡ false) × (before.logged.steps ≡ 2 ^ 64 - 1) × (after ≡ before)
StepGives visible step before after (Err (Recorder why)) = IsFree step before × FreeGives visible step before after (Err (Recorder why))
StepGives visible step before after (Err (Owed back)) = (before.logged.owed && waits step ≡ true) × (back ≡ step) × (after ≡ before)

-- ---- where a step stops

-- the queue of a sink is empty, or the last post of this call found its inbox full
abbrev pub HandsOut : SinkId → State PlainStream → Calls → Calls → Type 0
HandsOut sink state before after = (waiting_for state sink ≡ []) ⊎ LastFails before.stored after.stored

-- messages were handed out until the queue was empty, or the inbox was found full
abbrev pub StopsAt : CoreStep → State PlainStream → List Calls → List Calls → Type 0
StopsAt (asked.Connect conn) state before after = ⊤
StopsAt (asked.Frame conn f) state before after = ⊤
StopsAt (asked.Broken conn fault at) state before after = ⊤
StopsAt (asked.Close conn) state before after = ⊤
StopsAt (asked.Cut conn) state before after = ⊤
StopsAt asked.Sweep state before after = ⊤
StopsAt (asked.Notice sink) state before after = ⊤
StopsAt (asked.Out sink) state before after =
    (b c : Calls) → slice_get before sink.0 ≡ Some b → slice_get after sink.0 ≡ Some c → HandsOut sink state b c

-- the outbox was found empty
abbrev pub FindsNone : CoreStep → List Calls → List Calls → Type 0
FindsNone (asked.Connect conn) before after = ⊥
FindsNone (asked.Frame conn f) before after = ⊥
FindsNone (asked.Broken conn fault at) before after = ⊥
FindsNone (asked.Close conn) before after = ⊥
FindsNone (asked.Cut conn) before after = ⊥
FindsNone asked.Sweep before after = ⊥
FindsNone (asked.Notice sink) before after =
    (b c : Calls) → slice_get before sink.0 ≡ Some b → slice_get after sink.0 ≡ Some c → LastFails b.found c.found
FindsNone (asked.Out sink) before after = ⊥

-- by the result: the core's state after the step, and what its passes have written down before it and after it
abbrev pub Stops : CoreStep → State PlainStream → List Calls → List Calls → Result (Option (List Effect)) StepFault → Type 0
Stops step state before after (Ok (Some effects)) = StopsAt step state before after
Stops step state before after (Ok None) = FindsNone step before after
Stops step state before after (Err fault) = ⊤

-- a step that is handed back is exactly the one asked for
abbrev pub HandsBack : {A : Type 0} → CoreStep → Result A StepFault → Type 0
HandsBack step (Ok answer) = ⊤
HandsBack step (Err NoMemory) = ⊤
HandsBack step (Err Worn) = ⊤
HandsBack step (Err (Recorder why)) = ⊤
HandsBack step (Err (Owed back)) = back ≡ step

-- there is nothing to do only for a sink's notice, the one step with a sink that waits for a sweep
abbrev pub IsNothing : {A : Type 0} → CoreStep → Result (Option A) StepFault → Type 0
IsNothing step (Ok None) = (is_own step ≡ false) × (waits step ≡ true)
IsNothing step (Ok (Some answer)) = ⊤
IsNothing step (Err fault) = ⊤

-- ---- the results of its parts

-- a step without a sink, by the step of the core; none stands for the two others
abbrev pub step_for : CoreStep → Step PlainStream
step_for (asked.Connect conn) = Step.connect conn
step_for (asked.Frame conn f) = Step.frame conn f
step_for (asked.Broken conn fault at) = Step.broken conn fault at
step_for (asked.Close conn) = Step.close conn
step_for (asked.Cut conn) = Step.cut conn
step_for asked.Sweep = Step.sweep
step_for (asked.Notice sink) = Step.out sink
step_for (asked.Out sink) = Step.out sink

-- a step without a sink
abbrev pub OwnGives : {C : Type 0} → (C → Option (List CoreEntry)) → CoreStep → Logged C → Logged C → Result (List Effect) StepFault → Type 0
OwnGives visible step before after (Ok effects) =
    (d : PlainStep) × IsEntryFor step d × LoggedDoes visible (Some d) before after × (effects ≡ effects_by spec_of before.state (steps_of d)) × (after.fault ≡ before.fault)
OwnGives visible step before after (Err NoMemory) = LoggedDoes visible None before after × (after.fault ≡ before.fault)
OwnGives visible step before after (Err Worn) = ⊥
OwnGives visible step before after (Err (Recorder why)) = LoggedDoes visible None before after × (after.fault ≡ option_or before.fault (Some why))
OwnGives visible step before after (Err (Owed back)) = ⊥

-- a notice of the sink with an index
abbrev pub NoticeGives : {C : Type 0} → (C → Option (List CoreEntry)) → ℕ → Logged C → Logged C → SinkEnds → SinkEnds → Result (Option (List Effect)) StepFault → Type 0
NoticeGives visible index before after e f (Ok (Some effects)) =
    (n : Notice PlainStream) × DoesAt visible (Some (plain.Notice index (plain_notice n))) index before after e f
    × (effects ≡ effects_by spec_of before.state (steps_of (plain.Notice index (plain_notice n)))) × (after.fault ≡ before.fault)
NoticeGives visible index before after e f (Ok None) = (e.held ≡ None) × (f ≡ e) × (after ≡ before)
NoticeGives visible index before after e f (Err NoMemory) = DoesAt visible None index before after e f × (after.fault ≡ before.fault)
NoticeGives visible index before after e f (Err Worn) = ⊥
NoticeGives visible index before after e f (Err (Recorder why)) = DoesAt visible None index before after e f × (after.fault ≡ option_or before.fault (Some why))
NoticeGives visible index before after e f (Err (Owed back)) = ⊥

-- the queue of a sink is empty, or its inbox held 256 of the messages posted
abbrev pub HandsAll : SinkId → State PlainStream → SinkEnds → Type 0
HandsAll sink state e = (waiting_for state sink ≡ []) ⊎ Held 256 (IsHeldOf e.posted)

-- the messages of one sink, and its notice, as its passes have them written down
abbrev pub OutStops : SinkId → State PlainStream → Calls → Calls → Result (List Effect) StepFault → Type 0
OutStops sink state before after (Ok effects) = HandsOut sink state before after
OutStops sink state before after (Err fault) = ⊤

abbrev pub NoticeStops : Calls → Calls → Result (Option (List Effect)) StepFault → Type 0
NoticeStops before after (Ok (Some effects)) = ⊤
NoticeStops before after (Ok None) = LastFails before.found after.found
NoticeStops before after (Err fault) = ⊤

-- where no notice is held, one is taken from the outbox and held, if it has one
pub record Fetches (e f : SinkEnds) : Type 0 where
  pub key : f.key ≡ e.key
  pub posted : f.posted ≡ e.posted
  pub took : List (Notice PlainStream)
  pub taken : f.taken ≡ e.taken ++ took
  pub held : option_to_list e.held ++ took ≡ option_to_list f.held
  pub none : f.held ≡ None → f ≡ e

-- the first message queued for a sink is posted
pub record PostsOne (sink : SinkId) (before after : State PlainStream) (e f : SinkEnds) : Type 0 where
  pub message : Msg PlainStream
  pub next : next_for before sink ≡ Some message
  pub state : after ≡ handed_out sink before
  pub ends : f ≡ record e { posted = e.posted ++ message ∷ [] }

-- and `count` of them
pub record PostsMany (sink : SinkId) (count : ℕ) (before after : State PlainStream) (e f : SinkEnds) : Type 0 where
  pub state : after ≡ stepped_by spec_of before (replicate count (Step.out sink))
  pub ends : f ≡ record e { posted = e.posted ++ posted_by_steps spec_of sink before (replicate count (Step.out sink)) }

-- the messages of the sink with an index
abbrev pub OutGives : {C : Type 0} → (C → Option (List CoreEntry)) → SinkId → Logged C → Logged C → SinkEnds → SinkEnds → Result (List Effect) StepFault → Type 0
OutGives visible sink before after e f (Ok effects) =
    (count : ℕ) × DoesAt visible (Some (plain.Out sink.0 count)) sink.0 before after e f × HandsAll sink after.state f × (effects ≡ []) × (after.fault ≡ before.fault)
OutGives visible sink before after e f (Err NoMemory) = ⊥
OutGives visible sink before after e f (Err Worn) = ⊥
OutGives visible sink before after e f (Err (Recorder why)) = DoesAt visible None sink.0 before after e f × (after.fault ≡ option_or before.fault (Some why))
OutGives visible sink before after e f (Err (Owed back)) = ⊥

-- no messages, to a sink that doesn't exist
abbrev pub NowhereGives : {C : Type 0} {R : Ghosts C CoreEntry} → (C → Option (List CoreEntry)) → ℕ → StepLog C R → StepLog C R → Result (List Effect) StepFault → Type 0
NowhereGives visible index before after (Ok effects) =
    ((state : State PlainStream) → LoggedDoes visible (Some (plain.Out index 0)) (logged_of state before) (logged_of state after)) × (effects ≡ []) × (after.fault ≡ before.fault)
NowhereGives visible index before after (Err NoMemory) = ⊥
NowhereGives visible index before after (Err Worn) = ⊥
NowhereGives visible index before after (Err (Recorder why)) =
    ((state : State PlainStream) → LoggedDoes visible None (logged_of state before) (logged_of state after)) × (after.fault ≡ option_or before.fault (Some why))
NowhereGives visible index before after (Err (Owed back)) = ⊥
