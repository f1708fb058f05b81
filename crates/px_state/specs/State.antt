-- The state of the core: the names, the sinks, the connections with their streams, the requests that are answered later, and the messages queued for
-- each sink, with its group of volumes (PulseAudio: `pa_core`, and `pa_native_connection` of pulsecore/protocol-native.c; that messages are queued as
-- data is own).
use Rattle.std.specs.Prelude.{ℕ, List, [], map, filter, length, replicate, Option, None}
use Rattle.px_names.specs.Names.{Naming}
use Rattle.px_names.specs.declared.input_lists.InputList.{InputList}
use Rattle.px_header.specs.declared.header.Header.{Header}
use Rattle.px_header.specs.declared.header.SinkSpec.{SinkSpec}
use Rattle.px_flat.specs.FlatVolume.{FlatGroup, new_group}
use Rattle.px_msg.specs.declared.message.Msg.{Msg}
use Rattle.px_outcome.specs.declared.input.Connection.{Connection}
use Rattle.px_outcome.specs.declared.input.Input.{Input}
use Rattle.px_outcome.specs.declared.waiting.Waiting.{Waiting}
pub use Rattle.px_outcome.specs.Input.{has_number, connection_of, is_leaving, goes_on, belongs_to, is_bound_for, stays_on, is_settled, has_index, input_of, going, input_named, is_stream, stream_of, is_from, settled_on, bound_for, going_of}
use Rattle.px_state.specs.declared.delayed.Delayed.{Delayed}
pub use Rattle.px_outcome.specs.Waiting.{is_as, waiting_of_others}

-- P is the type of a parcel: a stream that moves from one sink to another
pub record State (P : Type 0) : Type 0 where
  -- the cookie, the sinks' names with the default sink, the name of the default source, and the clients in order of connecting
  pub names : Naming
  -- the sinks in order of index
  pub sinks : List SinkSpec
  -- in order of connecting
  pub connections : List Connection
  -- in rising index
  pub inputs : List Input
  -- the property lists of the inputs
  pub lists : List InputList
  -- the requests that are answered later, in the order of the requests
  pub waiting : List Waiting
  -- for each sink the messages queued for it, in order
  pub posted : List (List (Msg P))
  -- the messages held while their inputs move, in order
  pub delayed : List (Delayed P)
  -- for each sink its group: its volume, and those of the inputs on it
  pub groups : List FlatGroup
  -- the number of clients and inputs that were ever made: the next index of each
  pub clients_made : ℕ
  pub inputs_made : ℕ

-- a core before its first step, where `source` is the name of the default source that it tells, if any
abbrev pub new_state_with : {P : Type 0} → Option (List ℕ) → Header → State P
new_state_with source header = record {
  names = record { cookie = header.cookie; sinks = map (λ s. SinkSpec.name s) header.sinks; fallback = record { 0 = 0 }; source = source; clients = [] };
  sinks = header.sinks;
  connections = [];
  inputs = [];
  lists = [];
  waiting = [];
  posted = replicate (length header.sinks) [];
  delayed = [];
  groups = map (λ s. new_group (SinkSpec.spec s).channels) header.sinks;
  clients_made = 0;
  inputs_made = 0;
}

-- one that tells none
abbrev pub new_state : {P : Type 0} → Header → State P
new_state header = new_state_with None header

-- the connections that have ended
abbrev pub marked_of : List Connection → List Connection
marked_of connections = filter (λ c. Connection.marked c) connections
