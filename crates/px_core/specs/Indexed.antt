-- The indices of clients, and of the streams of each connection: none is given twice.
use Rattle.std.specs.Prelude.{◌≡◌, ℕ, ◌+◌, ◌<◌, ◌≤◌, true, List, map, filter, Option, None, Some, MatchOption}
use Rattle.std.specs.List.{AllByRecursion, Contains}
use Rattle.px_types.specs.declared.ids.ConnId.{ConnId}
use Rattle.px_names.specs.declared.client.Client.{Client}
use Rattle.px_outcome.specs.declared.input.Connection.{Connection}
use Rattle.px_outcome.specs.declared.input.Input.{Input}
use Rattle.px_state.specs.State.{State, connection_of, goes_on, is_from}
use Rattle.px_core.specs.Consistency.{IsIncreasing}

-- indices that were given one after the other: they rise, and lie below the one that is given next
pub record AreGiven (next : ℕ) (indices : List ℕ) : Type 0 where
  pub rising : IsIncreasing indices
  pub below : AllByRecursion (λ i. i < next) indices

-- ---- clients

-- a connection's number, with its client's index
abbrev pub own_client : Connection → ℕ × ℕ
own_client c = (c.conn.0, c.client)

-- a client's index, with its connection's number
abbrev pub own_connection : Client → ℕ × ℕ
own_connection client = (client.conn.0, client.index)

abbrev pub indices_of : List Client → List ℕ
indices_of clients = map (λ client. Client.index client) clients

-- ---- the streams of a connection

-- its live inputs, in rising index
abbrev pub inputs_from : List Input → ConnId → List Input
inputs_from inputs conn = filter (is_from conn) inputs

abbrev pub streams_of : List Input → ConnId → List ℕ
streams_of inputs conn = map (λ x. Input.stream x) (inputs_from inputs conn)

-- the index that its next stream gets
abbrev pub next_stream : Option Connection → ℕ
next_stream None = 0
next_stream (Some c) = c.streams

-- a new input's stream has the next index of its connection, and is counted; and the input names its connection's client
pub record IsNextStream (connections : List Connection) (x : Input) (streams : ℕ) : Type 0 where
  pub next : MatchOption (connection_of connections x.conn) ⊥ (λ c. x.stream ≡ c.streams)
  pub counted : streams ≡ x.stream + 1
  pub client : MatchOption (connection_of connections x.conn) ⊥ (λ c. x.client ≡ c.client)

-- a live input is of a connection that exists, and names that connection's client
abbrev pub NamesClient : List Connection → Input → Type 0
NamesClient connections x = goes_on x ≡ true → MatchOption (connection_of connections x.conn) ⊥ (λ c. x.client ≡ c.client)

-- ---- the state

pub record AreIndexed (connections : List Connection) (clients : List Client) (clients_made : ℕ) (inputs : List Input) : Type 0 where
  -- in the order of connecting
  pub clients_given : AreGiven clients_made (indices_of clients)
  -- each connection has its client and each client its connection, in the same order
  pub paired : map own_client connections ≡ map own_connection clients
  -- a connection that doesn't exist has no live stream
  pub streams_given : (conn : ConnId) → AreGiven (next_stream (connection_of connections conn)) (streams_of inputs conn)
  pub clients_named : AllByRecursion (NamesClient connections) inputs

abbrev pub IsIndexed : {P : Type 0} → State P → Type 0
IsIndexed state = AreIndexed state.connections state.names.clients state.clients_made state.inputs

-- ---- over steps

-- an input's index, with the connection, the client and the stream that it was made for
abbrev pub origin_of : Input → ℕ × ℕ × ℕ × ℕ
origin_of x = (x.index.0, x.conn.0, x.client, x.stream)

-- no index is given again: a client or an input with one that was given before was there before, and is of the same connection; and no count falls
pub record GivesNoneAgain {P : Type 0} (before after : State P) : Type 0 where
  pub clients : AllByRecursion (λ c. Client.index c < before.clients_made → Contains (map own_connection before.names.clients) (own_connection c)) after.names.clients
  pub inputs : AllByRecursion (λ x. (Input.index x).0 < before.inputs_made → Contains (map origin_of before.inputs) (origin_of x)) after.inputs
  pub counts : (before.clients_made ≤ after.clients_made) × (before.inputs_made ≤ after.inputs_made)
