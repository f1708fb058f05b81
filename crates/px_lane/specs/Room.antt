-- The memory that is taken for a turn's messages before it.
use Rattle.std.specs.Prelude.{ℕ, List}
use Rattle.px_model.specs.Stream.{Stream}
use Rattle.px_model.specs.Message.{Message}
use Rattle.px_model.specs.Sink.{Input}

-- messages with all the memory that they need: each stream that comes by one has room for `room` messages with `block_room` blocks in all; and how
-- many messages the list can hold without memory
pub record ReadyMessages : Type 0 where
  pub messages : List (Message Stream)
  pub room : ℕ
  pub block_room : ℕ
  pub capacity : ℕ

-- the inputs of a sink, and how many more messages, with how many blocks in all, they take without memory
pub record RoomyInputs : Type 0 where
  pub inputs : List Input
  pub room : ℕ
  pub block_room : ℕ
