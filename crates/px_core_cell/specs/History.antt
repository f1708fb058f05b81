-- The history of a core: the meaning of its entries, and the invariants of a core under its lock.
use Rattle.std.specs.Prelude.{◌≡◌, ℕ, ◌<◌, ◌≤◌, Bool, true, false, cond, nat_eq, List, [], ◌∷◌, ◌++◌, map, flat_map, length, slice_get, Option, None, Some, IfSome, ⊤}
use Rattle.std.specs.List.{fold}
use Rattle.std.specs.Option.{option_to_list}
use Rattle.px_types.specs.declared.ids.SinkId.{SinkId}
use Rattle.px_annals.specs.declared.entry.CoreEntry.{CoreEntry}
use Rattle.px_annals.specs.declared.stream.PlainStream.{PlainStream}
use Rattle.px_annals.specs.declared.step.PlainStep.{PlainStep}
use Rattle.px_annals.specs.declared.step.PlainStep.TheVariants as steps
use Rattle.px_header.specs.declared.header.Header.{Header}
use Rattle.px_header.specs.declared.header.SinkSpec.{SinkSpec}
use Rattle.px_header.specs.HeaderRules.{IsHeader}
use Rattle.px_msg.specs.declared.notice.Notice.{Notice}
use Rattle.px_msg.specs.View.{sample_spec}
use Rattle.px_msg.specs.Letters.{AreLawful, inputs_after}
use Rattle.px_state.specs.State.{State, new_state_with}
use Rattle.px_state.specs.Out.{waiting_for}
use Rattle.px_core.specs.Consistency.{IsConsistent}
use Rattle.px_core.specs.Orderly.{inputs_there}
use Rattle.px_core.specs.Hearing.{posted_by_steps}
use Rattle.px_core.specs.Step.{Step, stepped_by}
use Rattle.px_core_cell.specs.Cell.{Cell, Calls, SinkEnds}
use Rattle.px_core_cell.specs.Parcel.{spec_of}
use Rattle.px_core_cell.specs.Plain.{notice_for, steps_of}

abbrev pub sink_at : ℕ → SinkId
sink_at index = record { 0 = index }

-- ---- the meaning of entries

-- the steps of the core
abbrev pub steps_in : List CoreEntry → List (Step PlainStream)
steps_in entries = flat_map (λ e. steps_of (CoreEntry.step e)) entries

-- the state after these steps
abbrev pub replayed : State PlainStream → List CoreEntry → State PlainStream
replayed began entries = stepped_by spec_of began (steps_in entries)

-- the notice of a sink in a step
abbrev pub noticed_in : ℕ → PlainStep → List (Notice PlainStream)
noticed_in index (steps.Connect conn) = []
noticed_in index (steps.Frame conn at body) = []
noticed_in index (steps.Broken conn fault at) = []
noticed_in index (steps.Close conn) = []
noticed_in index (steps.Cut conn) = []
noticed_in index steps.Sweep = []
noticed_in index (steps.Notice sink notice) = cond (nat_eq sink index) (notice_for notice ∷ []) []
noticed_in index (steps.Out sink count) = []

-- the notices in all entries
abbrev pub noticed_by : ℕ → List CoreEntry → List (Notice PlainStream)
noticed_by index entries = flat_map (λ e. noticed_in index (CoreEntry.step e)) entries

-- whether a sweep is owed after a step: a sweep pays it, messages that are handed out change nothing, and each other step owes it
abbrev pub owes : Bool → PlainStep → Bool
owes owed (steps.Connect conn) = true
owes owed (steps.Frame conn at body) = true
owes owed (steps.Broken conn fault at) = true
owes owed (steps.Close conn) = true
owes owed (steps.Cut conn) = true
owes owed steps.Sweep = false
owes owed (steps.Notice sink notice) = true
owes owed (steps.Out sink count) = owed

-- and after all of them
abbrev pub owed_by : List CoreEntry → Bool
owed_by entries = fold (λ owed e. owes owed (CoreEntry.step e)) false entries

-- ---- entries that claim nothing that wasn't there

-- a step is exact in the state before it: at least as many messages as it hands out are queued for its sink, and the sink of its notice exists
abbrev pub IsExact : State PlainStream → PlainStep → Type 0
IsExact state (steps.Connect conn) = ⊤
IsExact state (steps.Frame conn at body) = ⊤
IsExact state (steps.Broken conn fault at) = ⊤
IsExact state (steps.Close conn) = ⊤
IsExact state (steps.Cut conn) = ⊤
IsExact state steps.Sweep = ⊤
IsExact state (steps.Notice sink notice) = sink < length state.sinks
IsExact state (steps.Out sink count) = count ≤ length (waiting_for state (sink_at sink))

-- each entry's step is exact in the state that the entries before it leave
abbrev pub AreExact : State PlainStream → List CoreEntry → Type 0
AreExact began [] = ⊤
AreExact began (e ∷ entries) = IsExact began e.step × AreExact (stepped_by spec_of began (steps_of e.step)) entries

-- the number of messages that a step names for a sink
abbrev pub named_in : ℕ → PlainStep → ℕ
named_in index (steps.Connect conn) = 0
named_in index (steps.Frame conn at body) = 0
named_in index (steps.Broken conn fault at) = 0
named_in index (steps.Close conn) = 0
named_in index (steps.Cut conn) = 0
named_in index steps.Sweep = 0
named_in index (steps.Notice sink notice) = 0
named_in index (steps.Out sink count) = cond (nat_eq sink index) count 0

-- ---- the invariants of a core under its lock

-- a sink's inbox is for its sample spec; all messages posted there are lawful, and the inputs that they leave are those that the core knows to be
-- there
pub record IsHeard (state : State PlainStream) (index : ℕ) (s : SinkSpec) (e : SinkEnds) : Type 0 where
  pub key : e.key ≡ Some s.spec
  pub lawful : AreLawful spec_of (sample_spec s.spec) e.posted
  pub inputs : inputs_there state (sink_at index) ≡ inputs_after spec_of e.posted

-- whether the recorder's content is visible or not
pub record IsSound {C : Type 0} (cell : Cell C) : Type 0 where
  pub core : IsConsistent spec_of cell.logged.state
  pub count : length cell.ends ≡ length cell.logged.state.sinks
  pub heard : (index : ℕ) (s : SinkSpec) (e : SinkEnds) → slice_get cell.logged.state.sinks index ≡ Some s → slice_get cell.ends index ≡ Some e
      → IsHeard cell.logged.state index s e

-- the messages posted to a sink are those that the entries hand to it, in order, and the notices taken from it are those in the entries, then the
-- held one
pub record IsAgreed (began : State PlainStream) (entries : List CoreEntry) (index : ℕ) (e : SinkEnds) : Type 0 where
  pub posted : e.posted ≡ posted_by_steps spec_of (sink_at index) began (steps_in entries)
  pub taken : e.taken ≡ noticed_by index entries ++ option_to_list e.held

-- the core is the replay of its entries, one a step, and each of them is exact
pub record IsReplay {C : Type 0} (began : State PlainStream) (cell : Cell C) (entries : List CoreEntry) : Type 0 where
  pub state : cell.logged.state ≡ replayed began entries
  pub steps : cell.logged.steps ≡ length entries
  pub owed : cell.logged.owed ≡ owed_by entries
  pub exact : AreExact began entries
  pub agreed : (index : ℕ) (e : SinkEnds) → slice_get cell.ends index ≡ Some e → IsAgreed began entries index e

-- all of it: `visible` gives the entries of a recorder whose content is visible
pub record IsCell {C : Type 0} (visible : C → Option (List CoreEntry)) (began : State PlainStream) (cell : Cell C) : Type 0 where
  pub sound : IsSound cell
  pub replay : IfSome (visible cell.logged.recorder) (IsReplay began cell)

-- ---- the beginning

-- a core's state at its beginning, its present state, and what its passes have written down for each sink
pub record Course (C : Type 0) : Type 0 where
  pub began : State PlainStream
  pub cell : Cell C
  pub calls : List Calls

-- the ends of a sink's mailboxes that have moved nothing, for its sample spec
abbrev pub fresh_ends : SinkSpec → SinkEnds
fresh_ends s = record { key = Some s.spec; posted = []; taken = []; held = None }

-- a core before its first step, whatever name of a default source it tells, with such mailboxes for each sink
pub record Begins (state : State PlainStream) (ends : List SinkEnds) : Type 0 where
  pub header : Header
  pub lawful : IsHeader header
  pub source : Option (List ℕ)
  pub state_is : state ≡ new_state_with source header
  pub ends_are : ends ≡ map fresh_ends header.sinks

abbrev pub first_cell : {C : Type 0} → State PlainStream → C → List SinkEnds → Cell C
first_cell state recorder ends = record { logged = record { state = state; recorder = recorder; fault = None; steps = 0; owed = false }; ends = ends }
