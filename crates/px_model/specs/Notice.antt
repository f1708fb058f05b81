-- The notices from a sink to the core, as plain data (PulseAudio: the messages of the playback stream, pulsecore/protocol-native.c).
use Rattle.std.specs.Prelude.{ℕ, ℤ, Bool}
use Rattle.px_model.specs.declared.data.Run.{Run}

-- the answer to a query: a stream's write index, its read index once all rendered frames are given, the frames that wait in the sink's buffer,
-- whether it plays then, and its run then
pub record Latency : Type 0 where
  pub write : ℤ
  pub read : ℤ
  pub buffered : ℕ
  pub playing : Bool
  pub run : Run

pub data Notice (P : Type 0) : Type 0 where
  -- an input, and how many frames it asks for
  request : ℕ → ℕ → Notice P
  overflow : ℕ → Notice P
  underflow : ℕ → Notice P
  started : ℕ → Notice P
  -- an input and a tag
  drained : ℕ → ℕ → Notice P
  -- an input that left the sink, and its parcel
  detached : ℕ → P → Notice P
  -- an input, a tag and the answer to it
  latency : ℕ → ℕ → Latency → Notice P
