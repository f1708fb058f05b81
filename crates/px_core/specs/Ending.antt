-- The number of times that the server ends a connection, and that it begins.
use Rattle.std.specs.Prelude.{ℕ, Bool, false, cond, nat_eq, ◌+◌, List, [], ◌∷◌, filter, length, is_some, Option, Some, None}
use Rattle.px_types.specs.declared.ids.ConnId.{ConnId}
use Rattle.px_state.specs.declared.effect.Effect.{Effect}
use Rattle.px_state.specs.declared.effect.Effect.TheVariants.{Sent, Closed}
use Rattle.px_outcome.specs.declared.input.Connection.{Connection}
use Rattle.px_model.specs.Frame.{SampleSpec}
use Rattle.px_state.specs.State.{State, connection_of}
use Rattle.px_core.specs.Connecting.{going_on}
use Rattle.px_core.specs.Step.{Step, connect, frame, broken, close, cut, sweep, notice, out, stepped}

-- the server ends the connection
abbrev pub is_end_of : ConnId → Effect → Bool
is_end_of conn (Sent to packet) = false
is_end_of conn (Closed ended reason fault at) = nat_eq ended.0 conn.0

abbrev pub ends_of : ConnId → List Effect → ℕ
ends_of conn effects = length (filter (is_end_of conn) effects)

-- 1 where it exists and is live
abbrev pub goes_on : List Connection → ConnId → ℕ
goes_on connections conn = cond (is_some (going_on connections conn)) 1 0

-- 1 where a client connects with its number, and that wasn't in use
abbrev pub begins_with : Option Connection → ConnId → ConnId → ℕ
begins_with (Some c) from conn = 0
begins_with None from conn = cond (nat_eq from.0 conn.0) 1 0

abbrev pub begins_of : {P : Type 0} → ConnId → State P → Step P → ℕ
begins_of conn state (connect from) = begins_with (connection_of state.connections from) from conn
begins_of conn state (frame c f) = 0
begins_of conn state (broken c fault at) = 0
begins_of conn state (close c) = 0
begins_of conn state (cut c) = 0
begins_of conn state sweep = 0
begins_of conn state (notice sink n) = 0
begins_of conn state (out sink) = 0

-- over all steps, from a state on
abbrev pub begins_by : {P : Type 0} → (P → SampleSpec) → ConnId → State P → List (Step P) → ℕ
begins_by spec_of conn state [] = 0
begins_by spec_of conn state (s ∷ steps) = begins_of conn state s + begins_by spec_of conn (stepped spec_of state s) steps
