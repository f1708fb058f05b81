-- The conditions on a change, so that it preserves the state's invariants.
use Rattle.std.specs.Prelude.{◌≡◌, ◌+◌, ◌<◌, List, [], ◌∷◌, map, length, slice_get, Option, Some, None, IfSome, IsSome, ⊤}
use Rattle.std.specs.List.{AllByRecursion, find}
use Rattle.px_types.specs.declared.ids.InputId.{InputId}
use Rattle.px_types.specs.declared.ids.SinkId.{SinkId}
use Rattle.px_header.specs.declared.header.SinkSpec.{SinkSpec}
use Rattle.px_model.specs.Orderly.{IsNewStream, AreFactors}
use Rattle.px_model.specs.Message.{InputFactors as Gains}
use Rattle.px_msg.specs.declared.factors.InputFactors.{InputFactors}
use Rattle.px_flat.specs.FlatVolume.{FlatGroup}
use Rattle.px_msg.specs.declared.message.Msg.{Msg}
use Rattle.px_msg.specs.declared.message.Msg.TheVariants.{New, Attach, Detach, Write, Cork, Flush, Trigger, Prebuf, Drain, Attr, Factors, Query}
use Rattle.px_msg.specs.View.{sample_spec, opened, gains}
use Rattle.px_outcome.specs.declared.input.Input.{Input}
use Rattle.px_outcome.specs.declared.input.Standing.TheVariants.{Settled, Leaving}
use Rattle.px_outcome.specs.declared.input.Way.TheVariants.{Coming, Left}
use Rattle.px_outcome.specs.declared.change.Change.TheVariants.{Authed, Named, Masked, Defaulted, Made, Described, Leaves, Moves, Arrives, Released, Posted, Regrouped, Asked, Answered, Gone, Ended, Forgotten}
use Rattle.px_state.specs.declared.delayed.Delayed.{Delayed}
pub use Rattle.px_state.specs.Delayed.{is_of, Suits}
use Rattle.px_state.specs.State.{State, input_of, bound_for}
use Rattle.px_state.specs.Change.{Change, changed}
use Rattle.px_core.specs.Connecting.{going_on}
use Rattle.px_ctl_play.specs.Asked.{MOST_ON_SINK}
use Rattle.px_core.specs.Grouped.{IsGroupOf, paid}
use Rattle.px_core.specs.Consistency.{IsInput, IsFedAt, GoesTo, IsIncreasing, IsAwaiting}
use Rattle.px_core.specs.Indexed.{inputs_from, IsNextStream}

-- a message brings a new input's stream to its sink, and fits it
abbrev pub Brings : {P : Type 0} → Input → SinkSpec → Msg P → Type 0
Brings x s (New n) = (n.input.0 ≡ x.index.0) × (n.spec ≡ x.spec) × IsNewStream (sample_spec s.spec) (opened n)
Brings x s (Attach input parcel feed factors) = ⊥
Brings x s (Detach input) = ⊥
Brings x s (Write input seek offset frames bytes) = ⊥
Brings x s (Cork input on) = ⊥
Brings x s (Flush input) = ⊥
Brings x s (Trigger input) = ⊥
Brings x s (Prebuf input) = ⊥
Brings x s (Drain input tag) = ⊥
Brings x s (Attr input attr) = ⊥
Brings x s (Factors each) = ⊥
Brings x s (Query input tag) = ⊥

-- a new input: its index is the next one, its sink has room for it, and a message brings its stream there
pub record IsNew {P : Type 0} (state : State P) (x : Input) (m : Msg P) : Type 0 where
  pub next : x.index.0 ≡ state.inputs_made
  pub way : x.way ≡ Coming
  pub standing : x.standing ≡ Settled
  pub is : IsInput state.sinks (state.inputs_made + 1) x
  pub room : length (bound_for state.inputs x.sink) < MOST_ON_SINK
  pub brings : (s : SinkSpec) → slice_get state.sinks x.sink.0 ≡ Some s → Brings x s m

-- factors for a sink: one for each of its channels, of inputs in rising index
abbrev pub AreFor : {P : Type 0} → SinkSpec → Msg P → Type 0
AreFor s (New n) = ⊥
AreFor s (Attach input parcel feed factors) = ⊥
AreFor s (Detach input) = ⊥
AreFor s (Write input seek offset frames bytes) = ⊥
AreFor s (Cork input on) = ⊥
AreFor s (Flush input) = ⊥
AreFor s (Trigger input) = ⊥
AreFor s (Prebuf input) = ⊥
AreFor s (Drain input tag) = ⊥
AreFor s (Attr input attr) = ⊥
AreFor s (Factors each) =
    AllByRecursion (λ f. AreFactors (sample_spec s.spec) (Gains.factors f)) (map gains each) × IsIncreasing (map (λ f. (InputFactors.input f).0) each)
AreFor s (Query input tag) = ⊥

-- an input has ended, and its sink got the message to detach it
pub record HasLeft (x : Input) : Type 0 where
  pub standing : x.standing ≡ Leaving
  pub way : x.way ≡ Left

-- the sink exists, the group is that of the inputs on it, and the factors are for it
pub record IsRegrouped {P : Type 0} (state : State P) (sink : SinkId) (group : FlatGroup) (m : Msg P) : Type 0 where
  pub there : sink.0 < length state.sinks
  pub follows : (s : SinkSpec) → slice_get state.sinks sink.0 ≡ Some s → IsGroupOf sink s state.inputs group
  pub factors : (s : SinkSpec) → slice_get state.sinks sink.0 ≡ Some s → AreFor s m

-- an input may move to a sink: it has room for the input
pub record MayMove {P : Type 0} (state : State P) (index : InputId) (to : SinkId) : Type 0 where
  pub goes : IfSome (input_of state.inputs index) (λ x. GoesTo state.sinks x.sink (IsFedAt x) to)
  pub room : length (bound_for state.inputs to) < MOST_ON_SINK

-- a held message suits an input that is settled now
pub record IsReleased {P : Type 0} (x : Input) (d : Delayed P) : Type 0 where
  pub standing : x.standing ≡ Settled
  pub suits : Suits x d.message

abbrev pub AreReleased : {P : Type 0} → List (Delayed P) → Input → Type 0
AreReleased delayed x = IfSome (find (is_of x.index) delayed) (IsReleased x)

abbrev pub Lawful : {P : Type 0} → State P → Change P → Type 0
Lawful state (Authed conn version) = ⊤
Lawful state (Named conn list) = ⊤
Lawful state (Masked conn mask) = ⊤
Lawful state (Defaulted sink) = ⊤
Lawful state (Made x m streams inputs) = IsNew state x m × (inputs ≡ state.inputs_made + 1) × IsNextStream state.connections x streams
Lawful state (Described index list) = ⊤
Lawful state (Leaves index) = ⊤
Lawful state (Moves index to) = MayMove state index to
Lawful state (Arrives index m) = ⊥
Lawful state (Released index) = IfSome (input_of state.inputs index) (AreReleased state.delayed)
Lawful state (Posted index m) = IfSome (input_of state.inputs index) (λ x. Suits x m)
Lawful state (Regrouped sink group m) = IsRegrouped state sink group m
Lawful state (Asked w) = IsAwaiting state.inputs w
Lawful state (Answered w) = ⊤
Lawful state (Gone index) = IfSome (input_of state.inputs index) HasLeft
Lawful state (Ended conn reason fault at) = IsSome (going_on state.connections conn)
Lawful state (Forgotten conn) = inputs_from state.inputs conn ≡ []

-- ---- the sinks whose groups don't match their inputs, after a change

-- those that the end of an input leaves
abbrev pub owed_for : Option Input → List SinkId → List SinkId
owed_for None owed = owed
owed_for (Some x) owed = x.sink ∷ owed

abbrev pub owed_after : {P : Type 0} → State P → Change P → List SinkId → List SinkId
owed_after state (Made x m streams inputs) owed = x.sink ∷ owed
owed_after state (Gone index) owed = owed_for (input_of state.inputs index) owed
owed_after state (Regrouped sink group m) owed = paid sink owed
owed_after state _ owed = owed

-- none is
abbrev pub IsPaid : List SinkId → Type 0
IsPaid [] = ⊤
IsPaid (sink ∷ owed) = ⊥

-- ---- changes

-- each is lawful in the state that those before it leave, and in the end the groups match the inputs
abbrev pub AreLawfulOwing : {P : Type 0} → List SinkId → State P → List (Change P) → Type 0
AreLawfulOwing owed state [] = IsPaid owed
AreLawfulOwing owed state (c ∷ changes) = Lawful state c × AreLawfulOwing (owed_after state c owed) (changed state c) changes

abbrev pub AreLawful : {P : Type 0} → State P → List (Change P) → Type 0
AreLawful state changes = AreLawfulOwing [] state changes
