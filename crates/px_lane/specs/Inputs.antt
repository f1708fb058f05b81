-- The inputs of the code as inputs of the model.
use Rattle.std.specs.Prelude.{ℕ, ◌≤◌, List, map}
use Rattle.px_model.specs.Sink.{Input as Stands}
use Rattle.px_lane.specs.declared.input.Input.{Input}

abbrev pub input_of : Input → Stands
input_of x = record { index = x.index.0; stream = x.stream.stream }

abbrev pub inputs_of : List Input → List Stands
inputs_of inputs = map input_of inputs

-- the stream of an input has room for `room` messages with `blocks` blocks in all
abbrev pub HasRoom : ℕ → ℕ → Input → Type 0
HasRoom room blocks x = (room ≤ x.stream.room) × (blocks ≤ x.stream.block_room)
