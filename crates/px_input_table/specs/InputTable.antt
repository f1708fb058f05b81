-- The table of the inputs: in rising index, and by their streams.
use Rattle.std.specs.Prelude.{◌≡◌, ℕ, Bool, ◌&&◌, nat_eq, List, Option}
use Rattle.indexmap.specs.IndexMap.{IndexMap, get}
use Rattle.px_outcome.specs.declared.input.Input.{Input}
use Rattle.px_input_table.specs.declared.input_table.StreamKey.{StreamKey}
use Rattle.px_outcome.specs.Input.{stream_of}

-- the inputs, the number of inputs that the table holds without memory, and the number of further streams
pub record RoomyInputs : Type 0 where
  pub items : List Input
  pub places : ℕ
  pub streams : ℕ

-- the stream of an input
abbrev pub key_of : Input → StreamKey
key_of x = record { conn = x.conn; stream = x.stream }

abbrev pub same_stream : StreamKey → StreamKey → Bool
same_stream a b = nat_eq a.conn.0 b.conn.0 && nat_eq a.stream b.stream

-- the first live input of a stream
abbrev pub first_of : List Input → StreamKey → Option Input
first_of inputs key = stream_of inputs key.conn key.stream

-- the entry of each stream is its first live input
abbrev pub AreByStream : {S : Type 0} → List Input → IndexMap StreamKey Input S → Type 0
AreByStream inputs table = (key : StreamKey) → get same_stream table key ≡ first_of inputs key
