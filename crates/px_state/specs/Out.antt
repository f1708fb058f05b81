-- Messages are handed to the sinks, and can be put back. Own: PulseAudio's `pa_asyncmsgq` holds its messages itself.
use Rattle.std.specs.Prelude.{ℕ, zero, suc, ◌+◌, ◌-◌, List, [], ◌∷◌, set, get_or, Option, None, Some}
use Rattle.px_types.specs.declared.ids.InputId.{InputId}
use Rattle.px_types.specs.declared.ids.SinkId.{SinkId}
use Rattle.px_msg.specs.declared.message.Msg.{Msg}
use Rattle.px_msg.specs.declared.message.Msg.TheVariants.{New, Attach, Detach, Write, Cork, Flush, Trigger, Prebuf, Drain, Attr, Factors, Query}
use Rattle.px_outcome.specs.declared.input.Input.{Input}
use Rattle.px_outcome.specs.declared.input.Way.{Way}
use Rattle.px_outcome.specs.declared.input.Way.TheVariants.{Coming, There, Left}
pub use Rattle.px_input_table.specs.Inputs.{on_way}
use Rattle.px_state.specs.State.{State, has_index}
use Rattle.px_state.specs.Change.{change_first}

-- the messages queued for a sink
abbrev pub waiting_for : {P : Type 0} → State P → SinkId → List (Msg P)
waiting_for state sink = get_or state.posted sink.0 []

abbrev pub first_of : {A : Type 0} → List A → Option A
first_of [] = None
first_of (x ∷ xs) = Some x

abbrev pub rest_of : {A : Type 0} → List A → List A
rest_of [] = []
rest_of (x ∷ xs) = xs

-- the first of them
abbrev pub next_for : {P : Type 0} → State P → SinkId → Option (Msg P)
next_for state sink = first_of (waiting_for state sink)

-- ---- the way of the input that a message names

abbrev pub with_way : InputId → Way → List Input → List Input
with_way index way inputs = change_first (has_index index) (on_way way) inputs

-- when it is handed out: a stream that is brought is there, and one to detach has left
abbrev pub inputs_past : {P : Type 0} → Msg P → List Input → List Input
inputs_past (New n) inputs = with_way n.input There inputs
inputs_past (Attach input parcel feed factors) inputs = with_way input There inputs
inputs_past (Detach input) inputs = with_way input Left inputs
inputs_past (Write input seek offset frames bytes) inputs = inputs
inputs_past (Cork input on) inputs = inputs
inputs_past (Flush input) inputs = inputs
inputs_past (Trigger input) inputs = inputs
inputs_past (Prebuf input) inputs = inputs
inputs_past (Drain input tag) inputs = inputs
inputs_past (Attr input attr) inputs = inputs
inputs_past (Factors each) inputs = inputs
inputs_past (Query input tag) inputs = inputs

-- and before it was handed out
abbrev pub inputs_before : {P : Type 0} → Msg P → List Input → List Input
inputs_before (New n) inputs = with_way n.input Coming inputs
inputs_before (Attach input parcel feed factors) inputs = with_way input Coming inputs
inputs_before (Detach input) inputs = with_way input There inputs
inputs_before (Write input seek offset frames bytes) inputs = inputs
inputs_before (Cork input on) inputs = inputs
inputs_before (Flush input) inputs = inputs
inputs_before (Trigger input) inputs = inputs
inputs_before (Prebuf input) inputs = inputs
inputs_before (Drain input tag) inputs = inputs
inputs_before (Attr input attr) inputs = inputs
inputs_before (Factors each) inputs = inputs
inputs_before (Query input tag) inputs = inputs

-- ---- the state after the first message is handed out, if there is one

abbrev pub without_next : {P : Type 0} → SinkId → State P → State P
without_next sink state = record state { posted = set state.posted sink.0 (rest_of (waiting_for state sink)) }

abbrev pub past : {P : Type 0} → Option (Msg P) → SinkId → State P → State P
past None sink state = state
past (Some m) sink state = record (without_next sink state) { inputs = inputs_past m state.inputs }

abbrev pub handed_out : {P : Type 0} → SinkId → State P → State P
handed_out sink state = past (next_for state sink) sink state

-- ---- the state after it is put back

abbrev pub put_back : {P : Type 0} → SinkId → Msg P → State P → State P
put_back sink m state = record state {
  posted = set state.posted sink.0 (m ∷ waiting_for state sink);
  inputs = inputs_before m state.inputs;
}

-- ---- the core: its state, and for each sink the number of further messages that its queue takes without memory

pub record Roomy (P : Type 0) : Type 0 where
  pub state : State P
  pub room : List ℕ

abbrev pub room_for : SinkId → List ℕ → ℕ
room_for sink room = get_or room sink.0 0

abbrev pub with_more_room : SinkId → List ℕ → List ℕ
with_more_room sink room = set room sink.0 (room_for sink room + 1)

abbrev pub with_less_room : SinkId → List ℕ → List ℕ
with_less_room sink room = set room sink.0 (room_for sink room - 1)

-- a message that was handed out frees its place
abbrev pub room_past : {M : Type 0} → Option M → SinkId → List ℕ → List ℕ
room_past None sink room = room
room_past (Some m) sink room = with_more_room sink room

-- the first message queued for a sink is handed out, and put back
abbrev pub sent : {P : Type 0} → SinkId → Roomy P → Roomy P
sent sink core = record { state = handed_out sink core.state; room = room_past (next_for core.state sink) sink core.room }

abbrev pub unsent : {P : Type 0} → SinkId → Msg P → Roomy P → Roomy P
unsent sink m core = record { state = put_back sink m core.state; room = with_less_room sink core.room }

-- `n` messages are handed out, one after the other
abbrev pub sent_by : {P : Type 0} → ℕ → SinkId → Roomy P → Roomy P
sent_by zero sink core = core
sent_by (suc n) sink core = sent_by n sink (sent sink core)

-- and these are put back, the last one first
abbrev pub unsent_by : {P : Type 0} → SinkId → List (Msg P) → Roomy P → Roomy P
unsent_by sink [] core = core
unsent_by sink (m ∷ messages) core = unsent sink m (unsent_by sink messages core)
