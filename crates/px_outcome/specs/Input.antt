-- Inputs by their numbers, and where they belong.
use Rattle.std.specs.Prelude.{ℕ, Bool, true, false, not, cond, ◌&&◌, nat_eq, List, filter, Option, None, Some}
use Rattle.std.specs.List.{find}
use Rattle.px_types.specs.declared.ids.ConnId.{ConnId}
use Rattle.px_types.specs.declared.ids.InputId.{InputId}
use Rattle.px_types.specs.declared.ids.SinkId.{SinkId}
use Rattle.px_outcome.specs.declared.input.Connection.{Connection}
use Rattle.px_outcome.specs.declared.input.Input.{Input}
use Rattle.px_outcome.specs.declared.input.Standing.{Standing}
use Rattle.px_outcome.specs.declared.input.Standing.TheVariants.{Settled, Moving, Leaving}

-- ---- connections

abbrev pub has_number : ConnId → Connection → Bool
has_number conn c = nat_eq c.conn.0 conn.0

-- the connection with a number
abbrev pub connection_of : List Connection → ConnId → Option Connection
connection_of connections conn = find (has_number conn) connections

-- ---- where an input belongs

abbrev pub is_leaving : Standing → Bool
is_leaving Settled = false
is_leaving (Moving to) = false
is_leaving Leaving = true

-- live: it hasn't ended
abbrev pub goes_on : Input → Bool
goes_on x = not (is_leaving x.standing)

-- it is moving to another sink
abbrev pub is_moving : Standing → Bool
is_moving Settled = false
is_moving (Moving to) = true
is_moving Leaving = false

-- an input on `on` belongs to `sink`
abbrev pub belongs_to : SinkId → SinkId → Standing → Bool
belongs_to sink on Settled = nat_eq on.0 sink.0
belongs_to sink on (Moving to) = nat_eq to.0 sink.0
belongs_to sink on Leaving = false

-- bound for the sink: settled there, or moving there
abbrev pub is_bound_for : SinkId → Input → Bool
is_bound_for sink x = belongs_to sink x.sink x.standing

-- it is on the sink and settled there
abbrev pub stays_on : SinkId → SinkId → Standing → Bool
stays_on sink on Settled = nat_eq on.0 sink.0
stays_on sink on (Moving to) = false
stays_on sink on Leaving = false

abbrev pub is_settled : SinkId → Input → Bool
is_settled sink x = stays_on sink x.sink x.standing

-- ---- inputs by their numbers

abbrev pub has_index : InputId → Input → Bool
has_index index x = nat_eq x.index.0 index.0

-- the input with an index
abbrev pub input_of : List Input → InputId → Option Input
input_of inputs index = find (has_index index) inputs

-- the input where it is live: for a command one that has ended doesn't exist
abbrev pub going : Option Input → Option Input
going None = None
going (Some x) = cond (goes_on x) (Some x) None

abbrev pub input_named : List Input → ℕ → Option Input
input_named inputs index = going (input_of inputs (record { 0 = index }))

-- it is stream `stream` of the connection, and live
abbrev pub is_stream : ConnId → ℕ → Input → Bool
is_stream conn stream x = nat_eq x.conn.0 conn.0 && nat_eq x.stream stream && goes_on x

-- the input of a connection's stream
abbrev pub stream_of : List Input → ConnId → ℕ → Option Input
stream_of inputs conn stream = find (is_stream conn stream) inputs

-- it is the connection's, and live
abbrev pub is_from : ConnId → Input → Bool
is_from conn x = nat_eq x.conn.0 conn.0 && goes_on x

-- ---- the inputs settled on a sink, those bound for it, and all live ones

abbrev pub settled_on : List Input → SinkId → List Input
settled_on inputs sink = filter (is_settled sink) inputs

abbrev pub bound_for : List Input → SinkId → List Input
bound_for inputs sink = filter (is_bound_for sink) inputs

abbrev pub going_of : List Input → List Input
going_of inputs = filter goes_on inputs
