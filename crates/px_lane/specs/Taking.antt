-- Messages that a sink can take, the memory that each needs before the turn, and what it does to the inputs once it has that.
use Rattle.std.specs.Prelude.{◌≡◌, ℕ, ◌≤◌, Bool, true, false, if◌then◌else◌, List, [], ◌∷◌, map, length, Option, Some, None, ⊤}
use Rattle.std.specs.List.{AllByRecursion}
use Rattle.px_model.specs.Stream.{Stream}
use Rattle.px_model.specs.Control.{new_stream}
use Rattle.px_model.specs.Message.{Message, StreamMessage, InputFactors}
use Rattle.px_model.specs.Notice.{Notice}
use Rattle.px_model.specs.Sink.{Input, stream_at, with_input, without_input, with_change}
use Rattle.px_model.specs.Applied.{applied, overflows}
use Rattle.px_model.specs.Turn.{inputs_with, message_notices, with_each_factors, notices_from, latency_of}
use Rattle.px_msg.specs.View.{gains}
use Rattle.px_msg.specs.declared.message.Msg.{Msg}
use Rattle.px_msg.specs.declared.message.Msg.TheVariants.{Attach}
use Rattle.px_stream.specs.HeldStream.{HeldStream}
use Rattle.px_stream.specs.Messages.{message_of, blocks_with, Suits}
use Rattle.px_stream.specs.declared.message.Applied.{Applied}
use Rattle.px_stream.specs.declared.message.Applied.TheVariants.{Quiet, Overflow}
use Rattle.px_lane.specs.Needed.{blocks_of}
use Rattle.px_lane.specs.Costs.{ready_cost, cost_of}
use Rattle.px_lane.specs.declared.ready.Ready.{Ready}
use Rattle.px_lane.specs.declared.ready.Ready.TheVariants.{Insert, Join, Remove, Change, Each, Answer}

-- ---- messages

-- a message fits the stream of an input, if that stream is there
abbrev pub SuitsAt : Option Stream → StreamMessage → Type 0
SuitsAt None m = ⊤
SuitsAt (Some s) m = Suits s m

-- the stream of each input has a feed for `channels` sink channels
abbrev pub AreFed : ℕ → List Input → Type 0
AreFed channels inputs = AllByRecursion (λ x. length (Stream.feed (Input.stream x)) ≡ channels) inputs

-- each entry has a factor for each channel that the inputs feed
pub record FactorsFit (each : List InputFactors) (inputs : List Input) : Type 0 where
  pub channels : ℕ
  pub fed : AreFed channels inputs
  pub factors : AllByRecursion (λ f. length (InputFactors.factors f) ≡ channels) each

-- what a message brings fits the stream that it names, or the parcel that it brings
abbrev pub CanTake : Message Stream → List Input → Type 0
CanTake (Message.attach i parcel feed factors) inputs = Suits parcel (StreamMessage.attach feed factors)
CanTake (Message.write w) inputs = SuitsAt (stream_at w.input inputs) (StreamMessage.write w.seek w.offset w.frames w.bytes)
CanTake (Message.attr i attr) inputs = SuitsAt (stream_at i inputs) (StreamMessage.attr attr)
CanTake (Message.factors each) inputs = FactorsFit each inputs
CanTake _ inputs = ⊤

-- each message can be taken in order, with `mixed` frames mixed ahead
abbrev pub CanTakeAll : ℕ → List (Message Stream) → List Input → Type 0
CanTakeAll mixed [] inputs = ⊤
CanTakeAll mixed (m ∷ messages) inputs = CanTake m inputs × CanTakeAll mixed messages (inputs_with mixed m inputs)

-- the stream that a New opens
abbrev pub streams_of : Message Stream → List Stream
streams_of (Message.new n) = new_stream n.spec n.feed n.factors n.attr n.corked ∷ []
streams_of _ = []

-- ---- room

-- a stream has room for `room` messages with `blocks` blocks in all
abbrev pub IsRoomy : ℕ → ℕ → HeldStream → Type 0
IsRoomy room blocks s = (room ≤ s.room) × (blocks ≤ s.block_room)

-- the parcel of an Attach has that room
abbrev pub BringsRoom : ℕ → ℕ → Msg HeldStream → Type 0
BringsRoom room blocks (Attach input parcel feed factors) = IsRoomy room blocks parcel
BringsRoom room blocks _ = ⊤

-- ---- messages with all the memory that they need

-- whether a message gives an Overflow of an input's stream, if that is there
abbrev pub overflows_at : ℕ → StreamMessage → Option Stream → Bool
overflows_at mixed m None = false
overflows_at mixed m (Some s) = overflows mixed m s

-- whether it is Overflow
abbrev pub is_overflow : Applied → Bool
is_overflow Quiet = false
is_overflow Overflow = true

-- the Overflow notice of input i, where a write was refused
abbrev pub overflow_if : ℕ → Bool → List (Notice Stream)
overflow_if i refused = if refused then Notice.overflow i ∷ [] else []

abbrev pub HasRoomLeft : ℕ → ℕ → Ready → Type 0
HasRoomLeft room blocks (Insert input stream) = IsRoomy room blocks stream
HasRoomLeft room blocks (Join input parcel feed factors) = IsRoomy room blocks parcel
HasRoomLeft room blocks _ = ⊤

-- how many blocks it brings
abbrev pub ready_blocks : Ready → ℕ
ready_blocks (Change input change) = blocks_with (message_of change)
ready_blocks _ = 0

abbrev pub ready_inputs : ℕ → Ready → List Input → List Input
ready_inputs mixed (Insert input stream) inputs = with_input input.0 stream.stream inputs
ready_inputs mixed (Join input parcel feed factors) inputs = with_input input.0 (applied mixed (StreamMessage.attach feed factors) parcel.stream) inputs
ready_inputs mixed (Remove input) inputs = without_input input.0 inputs
ready_inputs mixed (Change input change) inputs = with_change input.0 (applied mixed (message_of change)) inputs
ready_inputs mixed (Each list) inputs = with_each_factors (map gains list) inputs
ready_inputs mixed (Answer input tag) inputs = inputs

abbrev pub ready_notices : ℕ → ℕ → Ready → List Input → List (Notice Stream)
ready_notices mixed buffered (Remove input) inputs = notices_from (stream_at input.0 inputs) (λ s. Notice.detached input.0 s ∷ [])
ready_notices mixed buffered (Change input change) inputs = overflow_if input.0 (overflows_at mixed (message_of change) (stream_at input.0 inputs))
ready_notices mixed buffered (Answer input tag) inputs = notices_from (stream_at input.0 inputs) (λ s. Notice.latency input.0 tag (latency_of mixed buffered s) ∷ [])
ready_notices mixed buffered _ inputs = []

abbrev pub ReadySuits : Ready → List Input → Type 0
ReadySuits (Join input parcel feed factors) inputs = Suits parcel.stream (StreamMessage.attach feed factors)
ReadySuits (Change input change) inputs = SuitsAt (stream_at input.0 inputs) (message_of change)
ReadySuits (Each list) inputs = FactorsFit (map gains list) inputs
ReadySuits _ inputs = ⊤

-- a ready message does to every sink what the message m does
pub record IsReadyFor (ready : Ready) (m : Message Stream) : Type 0 where
  pub inputs : (mixed : ℕ) (inputs : List Input) → ready_inputs mixed ready inputs ≡ inputs_with mixed m inputs
  pub notices : (mixed buffered : ℕ) (inputs : List Input) → ready_notices mixed buffered ready inputs ≡ message_notices mixed buffered m inputs
  pub suits : (inputs : List Input) → CanTake m inputs → ReadySuits ready inputs
  pub blocks : ready_blocks ready ≡ blocks_of m
  pub costs : (mixed : ℕ) (inputs : List Input) → ready_cost mixed ready inputs ≡ cost_of mixed m inputs
