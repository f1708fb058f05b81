-- The invariants of the core's state, preserved by every step.
use Rattle.std.specs.Prelude.{◌≡◌, ℕ, zero, suc, ◌<◌, ◌≤◌, ◌≢◌, Bool, true, false, cond, ◌&&◌, nat_eq, List, [], ◌∷◌, ◌++◌, map, filter, length, flat_map, slice_get, get_or, Some, IsSome, MatchOption, ⊤}
use Rattle.std.specs.List.{AllByRecursion}
use Rattle.std.specs.Option.{option_to_list}
use Rattle.px_types.specs.declared.ids.InputId.{InputId}
use Rattle.px_types.specs.declared.ids.SinkId.{SinkId}
use Rattle.px_header.specs.declared.header.SinkSpec.{SinkSpec}
use Rattle.px_header.specs.HeaderRules.{AreSinks}
use Rattle.px_model.specs.Frame.{SampleSpec}
use Rattle.px_model.specs.Orderly.{IsOrderly, IsPlayable, IsRepaired, inputs_left_by}
use Rattle.px_frame.specs.Frame.{IsBody}
use Rattle.px_msg.specs.declared.factors.InputFactors.{InputFactors}
use Rattle.px_msg.specs.declared.message.Msg.{Msg}
use Rattle.px_msg.specs.declared.message.Msg.TheVariants.{New, Attach, Detach, Write, Cork, Flush, Trigger, Prebuf, Drain, Attr, Factors, Query}
use Rattle.px_msg.specs.View.{sample_spec, message_of}
use Rattle.px_outcome.specs.declared.input.Connection.{Connection}
use Rattle.px_outcome.specs.declared.input.Input.{Input}
use Rattle.px_outcome.specs.declared.input.Way.{Way}
use Rattle.px_outcome.specs.declared.input.Way.TheVariants.{Coming, There, Left}
use Rattle.px_outcome.specs.declared.input.Standing.{Standing}
use Rattle.px_outcome.specs.declared.input.Standing.TheVariants.{Settled, Moving, Leaving}
use Rattle.px_outcome.specs.declared.waiting.Waiting.{Waiting}
use Rattle.px_state.specs.State.{State, goes_on, input_of, settled_on, bound_for}
use Rattle.px_ctl_play.specs.Asked.{MOST_ON_SINK}
use Rattle.px_ctl_play.specs.Move.{feed_to}
use Rattle.px_state.specs.Delayed.{IsDelayed}
use Rattle.px_core.specs.Grouped.{AreGrouped}
use Rattle.px_core.specs.Orderly.{spec_in, specs_of, is_held_by}
use Rattle.px_state.specs.Out.{next_for, handed_out}
use Rattle.px_core.specs.Step.{Step, connect, frame, broken, close, cut, sweep, notice, out}

-- ---- connections and inputs

-- no two connections have the same number
abbrev pub AreDistinct : List Connection → Type 0
AreDistinct [] = ⊤
AreDistinct (c ∷ connections) = AllByRecursion (λ d. (Connection.conn d).0 ≢ c.conn.0) connections × AreDistinct connections

-- each input's index lies above those before it
abbrev pub AllAbove : ℕ → List Input → Type 0
AllAbove i inputs = AllByRecursion (λ x. i < (Input.index x).0) inputs

abbrev pub IsRising : List Input → Type 0
IsRising [] = ⊤
IsRising (x ∷ inputs) = AllAbove x.index.0 inputs × IsRising inputs

-- a channel plan feeds a sink's channels from the input's
abbrev pub IsFedAt : Input → SinkSpec → Type 0
IsFedAt x s = IsSome (feed_to x s.map)

-- where an input moves to a sink, that exists and is another than the one that it is on, and there is a channel plan for it
pub record GoesTo (sinks : List SinkSpec) (on : SinkId) (IsFed : SinkSpec → Type 0) (to : SinkId) : Type 0 where
  pub there : to.0 < length sinks
  pub apart : to.0 ≢ on.0
  pub fed : (s : SinkSpec) → slice_get sinks to.0 ≡ Some s → IsFed s

abbrev pub GoesThere : List SinkSpec → SinkId → (SinkSpec → Type 0) → Standing → Type 0
GoesThere sinks on IsFed Settled = ⊤
GoesThere sinks on IsFed (Moving to) = GoesTo sinks on IsFed to
GoesThere sinks on IsFed Leaving = ⊤

-- an input: its index is one of those that were given, its sinks exist, and a sink can play it
pub record IsInput (sinks : List SinkSpec) (made : ℕ) (x : Input) : Type 0 where
  pub given : x.index.0 < made
  pub sink_there : x.sink.0 < length sinks
  pub goes_there : GoesThere sinks x.sink (IsFedAt x) x.standing
  pub playable : IsPlayable (sample_spec x.spec)
  pub map : length x.map ≡ x.spec.channels
  pub repaired : IsRepaired x.attr

-- the input with an index exists and is live
abbrev pub IsGoing : List Input → InputId → Type 0
IsGoing inputs index = MatchOption (input_of inputs index) ⊥ (λ x. goes_on x ≡ true)

-- a request that is answered later asks about one that is
abbrev pub IsAwaiting : List Input → Waiting → Type 0
IsAwaiting inputs w = IsGoing inputs w.input

-- ---- the inputs on a sink, the messages queued for it, and the inputs settled on it

abbrev pub is_coming : Way → Bool
is_coming Coming = true
is_coming There = false
is_coming Left = false

abbrev pub is_coming_to : SinkId → Input → Bool
is_coming_to sink x = nat_eq x.sink.0 sink.0 && is_coming x.way

-- the sample spec of the input with an index, where a message brings it; spec_of reads a parcel's
abbrev pub brought_of : {P : Type 0} → (P → SampleSpec) → ℕ → Msg P → List SampleSpec
brought_of spec_of i (New n) = cond (nat_eq n.input.0 i) (sample_spec n.spec ∷ []) []
brought_of spec_of i (Attach input parcel feed factors) = cond (nat_eq input.0 i) (spec_of parcel ∷ []) []
brought_of spec_of i (Detach input) = []
brought_of spec_of i (Write input seek offset frames bytes) = []
brought_of spec_of i (Cork input on) = []
brought_of spec_of i (Flush input) = []
brought_of spec_of i (Trigger input) = []
brought_of spec_of i (Prebuf input) = []
brought_of spec_of i (Drain input tag) = []
brought_of spec_of i (Attr input attr) = []
brought_of spec_of i (Factors each) = []
brought_of spec_of i (Query input tag) = []

-- each number lies above those before it
abbrev pub IsIncreasing : List ℕ → Type 0
IsIncreasing [] = ⊤
IsIncreasing (i ∷ indices) = AllByRecursion (λ j. i < j) indices × IsIncreasing indices

-- a message that the core posts: factors name their inputs in rising index, each once
abbrev pub IsPosted : {P : Type 0} → Msg P → Type 0
IsPosted (Factors each) = IsIncreasing (map (λ f. (InputFactors.input f).0) each)
IsPosted _ = ⊤

-- the messages queued for a sink are orderly from the inputs that it has, and leave there exactly those that are settled on it; they bring each input
-- whose stream is still to come, once, and no other; and no more are bound for it than a sink can have
pub record AreInStep {P : Type 0} (spec_of : P → SampleSpec) (sink : SinkId) (s : SinkSpec) (inputs : List Input) (waiting : List (Msg P)) : Type 0 where
  pub orderly : IsOrderly spec_of (sample_spec s.spec) (specs_of (filter (is_held_by sink) inputs)) (map (message_of (λ p. p)) waiting)
  pub leaves : inputs_left_by spec_of (specs_of (filter (is_held_by sink) inputs)) (map (message_of (λ p. p)) waiting) ≡ specs_of (settled_on inputs sink)
  pub bring : (i : ℕ) → flat_map (brought_of spec_of i) waiting ≡ option_to_list (spec_in (is_coming_to sink) i inputs)
  pub each : AllByRecursion IsPosted waiting
  pub few : length (bound_for inputs sink) ≤ MOST_ON_SINK

-- for every sink
abbrev pub AreAllInStep : {P : Type 0} → (P → SampleSpec) → List SinkSpec → List Input → List (List (Msg P)) → Type 0
AreAllInStep spec_of sinks inputs posted =
    (index : ℕ) (s : SinkSpec) → slice_get sinks index ≡ Some s → AreInStep spec_of (record { 0 = index }) s inputs (get_or posted index [])

-- ---- the state

-- what every change preserves
pub record IsSteady {P : Type 0} (spec_of : P → SampleSpec) (state : State P) : Type 0 where
  pub sinks : AreSinks [] state.sinks
  pub distinct : AreDistinct state.connections
  pub rising : IsRising state.inputs
  pub inputs : AllByRecursion (IsInput state.sinks state.inputs_made) state.inputs
  pub waiting : AllByRecursion (IsAwaiting state.inputs) state.waiting
  -- one queue of messages a sink
  pub lists : length state.posted ≡ length state.sinks
  pub in_step : AreAllInStep spec_of state.sinks state.inputs state.posted

-- and those that all changes of a step preserve together: the groups match the inputs, and messages are held for moving inputs alone
pub record IsConsistent {P : Type 0} (spec_of : P → SampleSpec) (state : State P) : Type 0 where
  pub steady : IsSteady spec_of state
  pub grouped : AreGrouped [] state.sinks state.inputs state.groups
  pub still : AllByRecursion (IsDelayed state.inputs) state.delayed

-- a valid step: a frame has a valid body
abbrev pub IsStep : {P : Type 0} → Step P → Type 0
IsStep (connect conn) = ⊤
IsStep (frame conn f) = IsBody f.body
IsStep (broken conn fault at) = ⊤
IsStep (close conn) = ⊤
IsStep (cut conn) = ⊤
IsStep sweep = ⊤
IsStep (notice sink n) = ⊤
IsStep (out sink) = ⊤

-- a step that hands out no message to the sink
abbrev pub Spares : {P : Type 0} → SinkId → Step P → Type 0
Spares sink (connect conn) = ⊤
Spares sink (frame conn f) = ⊤
Spares sink (broken conn fault at) = ⊤
Spares sink (close conn) = ⊤
Spares sink (cut conn) = ⊤
Spares sink sweep = ⊤
Spares sink (notice from n) = ⊤
Spares sink (out to) = to.0 ≢ sink.0

-- ---- `n` messages handed to a sink, one after the other

abbrev pub handed_out_by : {P : Type 0} → ℕ → SinkId → State P → State P
handed_out_by zero sink state = state
handed_out_by (suc n) sink state = handed_out_by n sink (handed_out sink state)

-- these messages, in order; none once the queue is empty
abbrev pub messages_out : {P : Type 0} → ℕ → SinkId → State P → List (Msg P)
messages_out zero sink state = []
messages_out (suc n) sink state = option_to_list (next_for state sink) ++ messages_out n sink (handed_out sink state)
