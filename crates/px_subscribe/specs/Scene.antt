-- The part of the server's state that infos and subscriptions read, and how changes change it.
use Rattle.std.specs.Prelude.{ℕ, Bool, true, false, cond, ◌&&◌, nat_eq, nat_lt, List, [], ◌∷◌, ◌++◌, length, Option, None, Some, set}
use Rattle.std.specs.List.{fold, list_all}
use Rattle.px_types.specs.declared.ids.ConnId.{ConnId}
use Rattle.px_types.specs.declared.ids.InputId.{InputId}
use Rattle.px_types.specs.declared.ids.SinkId.{SinkId}
use Rattle.px_names.specs.declared.client.Client.{Client}
use Rattle.px_names.specs.declared.input_lists.InputList.{InputList}
use Rattle.px_names.specs.Clients.{is_on, change_first as change_client, without_first as without_client, new_client, with_list, with_mask}
use Rattle.px_names.specs.Names.{Naming}
use Rattle.px_names.specs.InputLists.{with_list_of, without_list_of}
use Rattle.px_flat.specs.FlatVolume.{FlatGroup}
use Rattle.px_msg.specs.declared.message.Msg.{Msg}
use Rattle.px_msg.specs.declared.message.Msg.TheVariants.{New, Attach, Detach, Write, Cork, Flush, Trigger, Prebuf, Drain, Attr, Factors, Query}
use Rattle.px_outcome.specs.declared.input.Connection.{Connection}
use Rattle.px_outcome.specs.declared.input.Input.{Input}
use Rattle.px_outcome.specs.declared.input.Standing.{Standing}
use Rattle.px_outcome.specs.declared.input.Standing.TheVariants.{Settled, Moving, Leaving}
use Rattle.px_outcome.specs.declared.change.Change.{Change}
use Rattle.px_outcome.specs.declared.change.Change.TheVariants.{Authed, Named, Masked, Defaulted, Made, Described, Leaves, Moves, Arrives, Released, Posted, Regrouped, Asked, Answered, Gone, Ended, Forgotten}
use Rattle.px_outcome.specs.Input.{has_number, has_index, input_of}
use Rattle.px_input_table.specs.Lists.{change_first, drop_first}
use Rattle.px_input_table.specs.Inputs.{leaving, with_attr, moving_to, arrived_at}
use Rattle.px_input_table.specs.Connections.{authed, marked, with_streams}

pub record Scene : Type 0 where
  -- the clients in order of connecting
  pub clients : List Client
  -- the number of sinks with names, and the default sink
  pub sinks : ℕ
  pub fallback : SinkId
  -- the name of the default source, where the server tells one
  pub source : Option (List ℕ)
  -- in order of connecting
  pub connections : List Connection
  -- in rising index
  pub inputs : List Input
  -- the property lists of the inputs
  pub lists : List InputList
  -- for each sink its group
  pub groups : List FlatGroup
  -- the number of inputs that were ever made
  pub inputs_made : ℕ

-- ---- inputs

-- a live one ends
abbrev pub left_by : Standing → Input → List Input → List Input
left_by Settled x inputs = change_first (has_index x.index) leaving inputs
left_by (Moving to) x inputs = change_first (has_index x.index) leaving inputs
left_by Leaving x inputs = inputs

abbrev pub left_of : Option Input → List Input → List Input
left_of None inputs = inputs
left_of (Some x) inputs = left_by x.standing x inputs

-- a settled one is to move to a sink
abbrev pub sent_by : SinkId → Standing → Input → List Input → List Input
sent_by to Settled x inputs = change_first (has_index x.index) (moving_to to) inputs
sent_by to (Moving on) x inputs = inputs
sent_by to Leaving x inputs = inputs

abbrev pub sent_of : SinkId → Option Input → List Input → List Input
sent_of to None inputs = inputs
sent_of to (Some x) inputs = sent_by to x.standing x inputs

-- and a moving one is settled there
abbrev pub come_by : Standing → Input → List Input → List Input
come_by Settled x inputs = inputs
come_by (Moving to) x inputs = change_first (has_index x.index) (arrived_at to) inputs
come_by Leaving x inputs = inputs

abbrev pub come_of : Option Input → List Input → List Input
come_of None inputs = inputs
come_of (Some x) inputs = come_by x.standing x inputs

-- buffer attributes in a message to an input become its own
abbrev pub inputs_noted : {P : Type 0} → InputId → Msg P → List Input → List Input
inputs_noted index (New n) inputs = inputs
inputs_noted index (Attach input parcel feed factors) inputs = inputs
inputs_noted index (Detach input) inputs = inputs
inputs_noted index (Write input seek offset frames bytes) inputs = inputs
inputs_noted index (Cork input on) inputs = inputs
inputs_noted index (Flush input) inputs = inputs
inputs_noted index (Trigger input) inputs = inputs
inputs_noted index (Prebuf input) inputs = inputs
inputs_noted index (Drain input tag) inputs = inputs
inputs_noted index (Attr input attr) inputs = change_first (has_index index) (with_attr attr) inputs
inputs_noted index (Factors each) inputs = inputs
inputs_noted index (Query input tag) inputs = inputs

abbrev pub inputs_posted_to : {P : Type 0} → Standing → Input → Msg P → List Input → List Input
inputs_posted_to Settled x m inputs = inputs_noted x.index m inputs
inputs_posted_to (Moving to) x m inputs = inputs_noted x.index m inputs
inputs_posted_to Leaving x m inputs = inputs

abbrev pub inputs_posted_if_there : {P : Type 0} → Option Input → Msg P → List Input → List Input
inputs_posted_if_there None m inputs = inputs
inputs_posted_if_there (Some x) m inputs = inputs_posted_to x.standing x m inputs

-- ---- the scene after a change

abbrev pub scene_arrived : InputId → Scene → Scene
scene_arrived index s = record s { inputs = come_of (input_of s.inputs index) s.inputs }

abbrev pub scene_changed : {P : Type 0} → Scene → Change (Msg P) FlatGroup → Scene
scene_changed s (Authed conn version) = record s { connections = change_first (has_number conn) (authed version) s.connections }
scene_changed s (Named conn list) = record s { clients = change_client (is_on conn) (with_list list) s.clients }
scene_changed s (Masked conn mask) = record s { clients = change_client (is_on conn) (with_mask mask) s.clients }
scene_changed s (Defaulted sink) = record s { fallback = cond (nat_lt sink.0 s.sinks) sink s.fallback }
scene_changed s (Made x m streams inputs) = record s {
  connections = change_first (has_number x.conn) (with_streams streams) s.connections;
  inputs = s.inputs ++ x ∷ [];
  inputs_made = inputs;
}
scene_changed s (Described index list) = record s { lists = with_list_of index list s.lists }
scene_changed s (Leaves index) = record s { inputs = left_of (input_of s.inputs index) s.inputs }
scene_changed s (Moves index to) = record s { inputs = sent_of to (input_of s.inputs index) s.inputs }
scene_changed s (Arrives index m) = scene_arrived index s
scene_changed s (Released index) = s
scene_changed s (Posted index m) = record s { inputs = inputs_posted_if_there (input_of s.inputs index) m s.inputs }
scene_changed s (Regrouped sink group m) = record s { groups = set s.groups sink.0 group }
scene_changed s (Asked w) = s
scene_changed s (Answered w) = s
scene_changed s (Gone index) = record s { inputs = drop_first (has_index index) s.inputs; lists = without_list_of index s.lists }
scene_changed s (Ended conn reason fault at) = record s { connections = change_first (has_number conn) marked s.connections }
scene_changed s (Forgotten conn) = record s {
  connections = drop_first (has_number conn) s.connections;
  clients = without_client (is_on conn) s.clients;
}

-- a change of clients, of their connections or of the default sink
abbrev pub is_of_clients : {P : Type 0} → Change (Msg P) FlatGroup → Bool
is_of_clients (Authed conn version) = true
is_of_clients (Named conn list) = true
is_of_clients (Masked conn mask) = true
is_of_clients (Defaulted sink) = true
is_of_clients (Ended conn reason fault at) = true
is_of_clients (Forgotten conn) = true
is_of_clients _ = false

-- the parts that such a change affects, and those that another does
abbrev pub clients_changed : {P : Type 0} → Scene → Change (Msg P) FlatGroup → Scene
clients_changed s change = cond (is_of_clients change) (scene_changed s change) s

abbrev pub inputs_changed : {P : Type 0} → Scene → Change (Msg P) FlatGroup → Scene
inputs_changed s change = cond (is_of_clients change) s (scene_changed s change)

-- and after all of them, in order
abbrev pub scene_after : {P : Type 0} → Scene → List (Change (Msg P) FlatGroup) → Scene
scene_after s changes = fold scene_changed s changes

-- a change that affects no info
abbrev pub is_quiet : {P : Type 0} → Change (Msg P) FlatGroup → Bool
is_quiet (Authed conn version) = true
is_quiet (Named conn list) = false
is_quiet (Masked conn mask) = false
is_quiet (Defaulted sink) = false
is_quiet (Made x m streams inputs) = false
is_quiet (Described index list) = false
is_quiet (Leaves index) = false
is_quiet (Moves index to) = false
is_quiet (Arrives index m) = false
is_quiet (Released index) = true
is_quiet (Posted index m) = true
is_quiet (Regrouped sink group m) = false
is_quiet (Asked w) = true
is_quiet (Answered w) = true
is_quiet (Gone index) = false
is_quiet (Ended conn reason fault at) = true
is_quiet (Forgotten conn) = false

abbrev pub are_quiet : {P : Type 0} → List (Change (Msg P) FlatGroup) → Bool
are_quiet changes = list_all is_quiet changes

-- a change that sets no mask
abbrev pub is_maskless : {P : Type 0} → Change (Msg P) FlatGroup → Bool
is_maskless (Masked conn mask) = false
is_maskless _ = true

-- a client that subscribes to nothing
abbrev pub is_deaf : Client → Bool
is_deaf client = nat_eq client.mask 0

abbrev pub are_deaf : List Client → Bool
are_deaf clients = list_all is_deaf clients

-- no client subscribes to anything, and the changes leave it so
abbrev pub nobody_hears : {P : Type 0} → List Client → List (Change (Msg P) FlatGroup) → Bool
nobody_hears clients changes = are_deaf clients && list_all is_maskless changes

-- and after a client has connected
abbrev pub new_connection : ConnId → ℕ → Connection
new_connection conn client = record { conn = conn; client = client; version = None; streams = 0; marked = false }

abbrev pub scene_joined : ConnId → ℕ → Scene → Scene
scene_joined conn client s = record s { connections = s.connections ++ new_connection conn client ∷ []; clients = s.clients ++ new_client conn client ∷ [] }

-- ---- the scene of a state's parts

abbrev pub scene_at : Naming → List Connection → List Input → List InputList → List FlatGroup → ℕ → Scene
scene_at names connections inputs lists groups inputs_made = record {
  clients = names.clients;
  sinks = length names.sinks;
  fallback = names.fallback;
  source = names.source;
  connections = connections;
  inputs = inputs;
  lists = lists;
  groups = groups;
  inputs_made = inputs_made;
}
