-- The most notices that a turn gives.
use Rattle.std.specs.Prelude.{ℕ, ◌+◌, List, length, ⊤}
use Rattle.std.specs.List.{sum_by}
use Rattle.px_block.specs.Given.{blocks_for}
use Rattle.px_model.specs.Stream.{Stream}
use Rattle.px_model.specs.Message.{Message}
use Rattle.px_model.specs.Frame.{SampleSpec}
use Rattle.px_model.specs.Orderly.{IsNewStream}
use Rattle.px_model.specs.Sink.{Input}

-- of an input: Started, Underflow, the answers to its drains, and a Request
abbrev pub needed_by_input : Input → ℕ
needed_by_input x = 3 + length x.stream.draining

-- of a message: its own, and the most that the input or drain it brings may add at the end of the turn
abbrev pub needed_by : Message Stream → ℕ
needed_by (Message.new n) = 2
needed_by (Message.attach i parcel feed factors) = 2 + length parcel.draining
needed_by (Message.drain i tag) = 2
needed_by _ = 1

abbrev pub needed : List Input → List (Message Stream) → ℕ
needed inputs messages = sum_by needed_by_input inputs + sum_by needed_by messages

-- how many blocks a message brings
abbrev pub blocks_of : Message Stream → ℕ
blocks_of (Message.write w) = blocks_for (length w.bytes)
blocks_of _ = 0

-- a new stream fits a sink
abbrev pub Opens : Message Stream → Type 0
Opens (Message.new n) = (sink : SampleSpec) × IsNewStream sink n
Opens _ = ⊤
