-- The messages from the core to a sink, as plain data (PulseAudio: the messages of `pa_sink` and of the playback stream, pulsecore/sink.h and
-- pulsecore/protocol-native.c). P is the type of a parcel: a stream between two sinks.
use Rattle.std.specs.Prelude.{ℕ, ℤ, Bool, List}
use Rattle.px_model.specs.declared.data.Attr.{Attr}
use Rattle.px_model.specs.Frame.{SampleSpec}

-- what a new stream starts with
pub record NewStream : Type 0 where
  pub input : ℕ
  pub spec : SampleSpec
  pub feed : List ℕ
  pub factors : List ℕ
  pub attr : Attr
  pub corked : Bool

-- the factors of one input, one for each sink channel
pub record InputFactors : Type 0 where
  pub input : ℕ
  pub factors : List ℕ

-- frames for an input: the mode of the seek as on the wire, its offset in frames, how many frames they are, and their bytes
pub record FrameWrite : Type 0 where
  pub input : ℕ
  pub seek : ℕ
  pub offset : ℤ
  pub frames : ℕ
  pub bytes : List ℕ

pub data Message (P : Type 0) : Type 0 where
  -- a new input
  new : NewStream → Message P
  -- an input from another sink, its parcel, feed and factors
  attach : ℕ → P → List ℕ → List ℕ → Message P
  -- an input leaves
  detach : ℕ → Message P
  write : FrameWrite → Message P
  cork : ℕ → Bool → Message P
  flush : ℕ → Message P
  trigger : ℕ → Message P
  prebuf : ℕ → Message P
  -- an input and a tag
  drain : ℕ → ℕ → Message P
  attr : ℕ → Attr → Message P
  factors : List InputFactors → Message P
  -- an input and a tag
  query : ℕ → ℕ → Message P

-- what a message does to a stream that is there, without the input that it names
pub data StreamMessage : Type 0 where
  -- a feed and factors for the sink that it has come to
  attach : List ℕ → List ℕ → StreamMessage
  -- the mode of the seek, its offset in frames, how many frames they are, and their bytes
  write : ℕ → ℤ → ℕ → List ℕ → StreamMessage
  cork : Bool → StreamMessage
  flush : StreamMessage
  trigger : StreamMessage
  prebuf : StreamMessage
  drain : ℕ → StreamMessage
  attr : Attr → StreamMessage
  factors : List ℕ → StreamMessage
  query : ℕ → StreamMessage
