-- The state after each change. A step is a list of changes, made one after the other.
use Rattle.std.specs.Prelude.{ℕ, ◌+◌, cond, nat_lt, length, List, [], ◌∷◌, ◌++◌, Option, None, Some, set, get_or}
use Rattle.std.specs.List.{fold, find}
use Rattle.px_types.specs.declared.ids.ConnId.{ConnId}
use Rattle.px_types.specs.declared.ids.InputId.{InputId}
use Rattle.px_types.specs.declared.ids.SinkId.{SinkId}
use Rattle.px_tag.specs.PropList.{Property}
use Rattle.px_names.specs.Clients.{new_client, is_on, change_first as change_client, without_first as without_client, with_list, with_mask}
use Rattle.px_names.specs.Names.{Naming}
use Rattle.px_names.specs.InputLists.{with_list_of, without_list_of}
use Rattle.px_flat.specs.FlatVolume.{FlatGroup}
use Rattle.px_msg.specs.declared.message.Msg.{Msg}
use Rattle.px_msg.specs.declared.message.Msg.TheVariants.{Detach}
use Rattle.px_outcome.specs.declared.input.Connection.{Connection}
use Rattle.px_outcome.specs.declared.input.Input.{Input}
use Rattle.px_outcome.specs.declared.input.Standing.{Standing}
use Rattle.px_outcome.specs.declared.input.Standing.TheVariants.{Settled, Moving, Leaving}
use Rattle.px_outcome.specs.declared.change.Change.{Change as AnyChange}
use Rattle.px_outcome.specs.declared.change.Change.TheVariants.{Authed, Named, Masked, Defaulted, Made, Described, Leaves, Moves, Arrives, Released, Posted, Regrouped, Asked, Answered, Gone, Ended, Forgotten}
pub use Rattle.px_input_table.specs.Lists.{change_first, drop_first}
pub use Rattle.px_input_table.specs.Inputs.{leaving, with_attr, moving_to, arrived_at}
pub use Rattle.px_input_table.specs.Connections.{authed, marked, with_streams}
pub use Rattle.px_subscribe.specs.Scene.{inputs_noted, new_connection}
use Rattle.px_state.specs.declared.delayed.Delayed.{Delayed}
use Rattle.px_state.specs.Delayed.{is_of, delayed_of_others}
use Rattle.px_state.specs.State.{State, has_number, has_index, input_of, is_as, waiting_of_others}

-- a change with the messages of the core, and its groups of volumes
abbrev pub Change : Type 0 → Type 0
Change P = AnyChange (Msg P) FlatGroup

-- ---- names

abbrev pub renamed : ConnId → List Property → Naming → Naming
renamed conn list names = record names { clients = change_client (is_on conn) (with_list list) names.clients }

abbrev pub masked : ConnId → ℕ → Naming → Naming
masked conn mask names = record names { clients = change_client (is_on conn) (with_mask mask) names.clients }

-- an existing sink becomes the default sink
abbrev pub defaulted : SinkId → Naming → Naming
defaulted sink names = cond (nat_lt sink.0 (length names.sinks)) (record names { fallback = sink }) names

abbrev pub forgotten : ConnId → Naming → Naming
forgotten conn names = record names { clients = without_client (is_on conn) names.clients }

-- ---- connections

abbrev pub with_connection : {P : Type 0} → ConnId → (Connection → Connection) → State P → State P
with_connection conn change state = record state { connections = change_first (has_number conn) change state.connections }

-- the state with one more connection, and its client
abbrev pub joined : {P : Type 0} → ConnId → State P → State P
joined conn state = record state {
  connections = state.connections ++ new_connection conn state.clients_made ∷ [];
  names = record state.names { clients = state.names.clients ++ new_client conn state.clients_made ∷ [] };
  clients_made = state.clients_made + 1;
}

-- ---- messages

-- the queues, with a message appended to one
abbrev pub posted_to : {P : Type 0} → ℕ → Msg P → List (List (Msg P)) → List (List (Msg P))
posted_to sink m posted = set posted sink (get_or posted sink [] ++ m ∷ [])

abbrev pub posting : {P : Type 0} → ℕ → Msg P → State P → State P
posting sink m state = record state { posted = posted_to sink m state.posted }

-- ---- inputs

-- without an input's requests and held messages
abbrev pub without_standing : {P : Type 0} → InputId → State P → State P
without_standing index state = record state {
  inputs = change_first (has_index index) leaving state.inputs;
  waiting = waiting_of_others state.waiting index;
  delayed = delayed_of_others state.delayed index;
}

-- an input ends: a settled one's sink gets the message to detach its stream, a moving one's has it already, and one that has ended stays so
abbrev pub ending : {P : Type 0} → Standing → Input → State P → State P
ending Settled x state = posting x.sink.0 (Detach x.index) (without_standing x.index state)
ending (Moving to) x state = without_standing x.index state
ending Leaving x state = state

abbrev pub ending_of : {P : Type 0} → Option Input → State P → State P
ending_of None state = state
ending_of (Some x) state = ending x.standing x state

abbrev pub noting : {P : Type 0} → InputId → Msg P → State P → State P
noting index m state = record state { inputs = inputs_noted index m state.inputs }

-- a message is held while its input moves
abbrev pub delaying : {P : Type 0} → InputId → Msg P → State P → State P
delaying index m state = record state { delayed = state.delayed ++ record { input = index; message = m } ∷ [] }

-- a message about an input is posted to its sink, where the input is settled there
abbrev pub posting_to_input : {P : Type 0} → Standing → Input → Msg P → State P → State P
posting_to_input Settled x m state = posting x.sink.0 m (noting x.index m state)
posting_to_input (Moving to) x m state = delaying x.index m (noting x.index m state)
posting_to_input Leaving x m state = state

abbrev pub posting_if_there : {P : Type 0} → Option Input → Msg P → State P → State P
posting_if_there None m state = state
posting_if_there (Some x) m state = posting_to_input x.standing x m state

-- ---- an input moves between sinks

-- a settled one's sink gets the message to detach its stream
abbrev pub departing : {P : Type 0} → SinkId → Input → State P → State P
departing to x state = posting x.sink.0 (Detach x.index) (record state { inputs = change_first (has_index x.index) (moving_to to) state.inputs })

abbrev pub departs : {P : Type 0} → SinkId → Standing → Input → State P → State P
departs to Settled x state = departing to x state
departs to (Moving on) x state = state
departs to Leaving x state = state

abbrev pub departs_of : {P : Type 0} → SinkId → Option Input → State P → State P
departs_of to None state = state
departs_of to (Some x) state = departs to x.standing x state

-- and once it has, a message brings its stream to the other sink
abbrev pub arriving : {P : Type 0} → SinkId → Input → Msg P → State P → State P
arriving to x m state = posting to.0 m (record state { inputs = change_first (has_index x.index) (arrived_at to) state.inputs })

abbrev pub arrives : {P : Type 0} → Standing → Input → Msg P → State P → State P
arrives Settled x m state = state
arrives (Moving to) x m state = arriving to x m state
arrives Leaving x m state = state

abbrev pub arrives_of : {P : Type 0} → Option Input → Msg P → State P → State P
arrives_of None m state = state
arrives_of (Some x) m state = arrives x.standing x m state

-- a held message is queued for the sink that its input is on
abbrev pub releasing : {P : Type 0} → Input → Option (Delayed P) → State P → State P
releasing x None state = state
releasing x (Some d) state = posting x.sink.0 d.message (record state { delayed = drop_first (is_of x.index) state.delayed })

-- the oldest of the input's
abbrev pub releasing_of : {P : Type 0} → Option Input → State P → State P
releasing_of None state = state
releasing_of (Some x) state = releasing x (find (is_of x.index) state.delayed) state

-- ---- volumes

-- a sink's group is set
abbrev pub regrouping : {P : Type 0} → ℕ → FlatGroup → State P → State P
regrouping sink group state = record state { groups = set state.groups sink group }

-- ---- the state after a change

abbrev pub changed : {P : Type 0} → State P → Change P → State P
changed state (Authed conn version) = with_connection conn (authed version) state
changed state (Named conn list) = record state { names = renamed conn list state.names }
changed state (Masked conn mask) = record state { names = masked conn mask state.names }
changed state (Defaulted sink) = record state { names = defaulted sink state.names }
changed state (Made x m streams inputs) =
    posting x.sink.0 m (record (with_connection x.conn (with_streams streams) state) { inputs = state.inputs ++ x ∷ []; inputs_made = inputs })
changed state (Described index list) = record state { lists = with_list_of index list state.lists }
changed state (Leaves index) = ending_of (input_of state.inputs index) state
changed state (Moves index to) = departs_of to (input_of state.inputs index) state
changed state (Arrives index m) = arrives_of (input_of state.inputs index) m state
changed state (Released index) = releasing_of (input_of state.inputs index) state
changed state (Posted index m) = posting_if_there (input_of state.inputs index) m state
changed state (Regrouped sink group m) = posting sink.0 m (regrouping sink.0 group state)
changed state (Asked w) = record state { waiting = state.waiting ++ w ∷ [] }
changed state (Answered w) = record state { waiting = drop_first (is_as w) state.waiting }
changed state (Gone index) = record state { inputs = drop_first (has_index index) state.inputs; lists = without_list_of index state.lists }
changed state (Ended conn reason fault at) = with_connection conn marked state
changed state (Forgotten conn) = record state {
  connections = drop_first (has_number conn) state.connections;
  names = forgotten conn state.names;
}

-- and after all of them, in order
abbrev pub committed : {P : Type 0} → State P → List (Change P) → State P
committed state changes = fold changed state changes
