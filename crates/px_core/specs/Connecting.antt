-- Connections begin and end (PulseAudio: `pa_native_protocol_connect` and `native_connection_unlink` of pulsecore/protocol-native.c; that an ended
-- connection is removed in a step of its own is own).
use Rattle.std.specs.Prelude.{ℕ, Bool, cond, ◌||◌, nat_le, List, [], ◌∷◌, ◌++◌, filter, length, flat_map, Option, None, Some}
use Rattle.px_types.specs.declared.ids.ConnId.{ConnId}
use Rattle.px_outcome.specs.declared.change.Change.TheVariants.{Leaves, Forgotten}
use Rattle.px_state.specs.declared.effect.Effect.{Effect}
use Rattle.px_outcome.specs.declared.sending.Reason.{Reason}
use Rattle.px_outcome.specs.declared.sending.Reason.TheVariants.{Limit}
use Rattle.px_outcome.specs.declared.input.Connection.{Connection}
use Rattle.px_outcome.specs.declared.input.Input.{Input}
use Rattle.px_outcome.specs.Outcome.{idle, changing}
use Rattle.px_state.specs.Effect.{closed_for}
use Rattle.px_state.specs.Change.{Change}
pub use Rattle.px_state.specs.Change.{new_connection, joined}
use Rattle.px_state.specs.State.{State, connection_of, marked_of, is_from}
use Rattle.px_state.specs.Outcome.{CoreOutcome, ended_by}

-- ---- a connection begins

abbrev pub MOST_CONNECTIONS : ℕ
MOST_CONNECTIONS = 64

-- the index that no client has
abbrev pub LAST_CLIENT : ℕ
LAST_CLIENT = 0xFFFFFFFF

abbrev pub is_full : {P : Type 0} → State P → Bool
is_full state = nat_le MOST_CONNECTIONS (length state.connections) || nat_le LAST_CLIENT state.clients_made

-- a number in use already changes nothing; where there is no room for more the server ends the new one
abbrev pub connected : {P : Type 0} → Option Connection → ConnId → State P → State P
connected (Some c) conn state = state
connected None conn state = cond (is_full state) state (joined conn state)

abbrev pub connect_effects : {P : Type 0} → Option Connection → ConnId → State P → List Effect
connect_effects (Some c) conn state = []
connect_effects None conn state = cond (is_full state) (closed_for conn Limit ∷ []) []

-- ---- it ends: it is marked, once

-- the connection with a number, where it is live
abbrev pub unmarked : Option Connection → Option Connection
unmarked None = None
unmarked (Some c) = cond c.marked None (Some c)

abbrev pub going_on : List Connection → ConnId → Option Connection
going_on connections conn = unmarked (connection_of connections conn)

-- the version that a connection agreed on, where it exists and has authenticated
abbrev pub version_in : Option Connection → Option ℕ
version_in None = None
version_in (Some c) = c.version

abbrev pub version_of : List Connection → ConnId → Option ℕ
version_of connections conn = version_in (connection_of connections conn)

-- a live one ends: by the server for a reason, or by the client
abbrev pub ended : {P : Type 0} → Option Connection → Option Reason → ℕ → ℕ → CoreOutcome P
ended None reason fault at = idle
ended (Some c) reason fault at = ended_by c.conn reason fault at

-- ---- it is removed: its streams end, in their order, and its client goes

-- an input ends
abbrev pub ends : {P : Type 0} → Input → List (Change P)
ends x = Leaves x.index ∷ []

abbrev pub swept : {P : Type 0} → List Input → Connection → List (Change P)
swept inputs c = flat_map ends (filter (is_from c.conn) inputs) ++ Forgotten c.conn ∷ []

abbrev pub sweep_of : {P : Type 0} → State P → CoreOutcome P
sweep_of state = changing (flat_map (swept state.inputs) (marked_of state.connections))
