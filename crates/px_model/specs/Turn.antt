-- A turn of a sink, and a turn whose device failed, each with its notices in order (PulseAudio: `pa_sink_render`, `pa_sink_process_rewind` and
-- `pa_sink_input_process_rewind`; own: the order of messages and notices).
use Rattle.std.specs.Prelude.{ℕ, ◌+◌, ◌-◌, min, Bool, true, false, not, ◌&&◌, ◌||◌, List, [], ◌∷◌, ◌++◌, map, flat_map, take, drop, length, Option, Some, None, nat_lt, nat_le, ◌==◌, if◌then◌else◌, ⊤}
use Rattle.std.specs.List.{range_with_len, AllByRecursion}
use Rattle.px_model.specs.declared.data.Run.{Run}
use Rattle.px_model.specs.declared.data.Run.TheVariants.{Quiet, Playing}
use Rattle.px_model.specs.Index.{above}
use Rattle.px_model.specs.Frame.{Frame}
use Rattle.px_model.specs.Queue.{left_of}
use Rattle.px_model.specs.Stream.{Stream, IsStream}
use Rattle.px_model.specs.Going.{after, ahead_of, given_of}
use Rattle.px_model.specs.Write.{Outcome, stored, overflow, outside}
use Rattle.px_model.specs.Control.{new_stream, with_factors}
use Rattle.px_model.specs.Applied.{applied, write_outcome}
use Rattle.px_model.specs.Message.{Message, StreamMessage, InputFactors}
use Rattle.px_model.specs.Notice.{Notice, Latency}
use Rattle.px_model.specs.Mix.{Samples, mix_of}
use Rattle.px_model.specs.Orderly.{IsOrderly}
use Rattle.px_model.specs.Sink.{Sink, Input, specs_of, streams_of, stream_at, with_input, without_input, with_stream, with_change}

abbrev pub is_playing : Run → Bool
is_playing (Playing p) = true
is_playing (Quiet u) = false

-- ---- 1. play n frames, and go forward to the new horizon

-- the first frame that may still change after n more frames were consumed
abbrev pub next_horizon : Sink → ℕ → ℕ
next_horizon sink n = min sink.filled (sink.consumed + n + sink.guard)

-- the sink after the first step; the first n frames of its buffer are played
abbrev pub settled : Sink → ℕ → Sink
settled sink n = record sink {
  consumed = sink.consumed + n;
  horizon = next_horizon sink n;
  buffer = drop n sink.buffer;
  inputs = map (with_stream (λ s. after s (next_horizon sink n - sink.horizon))) sink.inputs;
}

-- Started: it was silent, and gives a frame
abbrev pub has_started : Stream → ℕ → Bool
has_started s k = not (is_playing s.run) && nat_lt 0 (given_of s k)

-- Underflow: it is silent now, it played or gave a frame, and it isn't draining
abbrev pub has_run_out : Stream → ℕ → Bool
has_run_out s k = (not (is_playing (after s k).run) && (is_playing s.run || nat_lt 0 (given_of s k))) && length s.draining == 0

abbrev pub going_notices : ℕ → Input → List (Notice Stream)
going_notices k x =
    (if has_started x.stream k then Notice.started x.index ∷ [] else [])
    ++ (if has_run_out x.stream k then Notice.underflow x.index ∷ [] else [])

-- ---- 2. the messages in order, at the horizon

-- Factors skips inputs that aren't there
abbrev pub with_each_factors : List InputFactors → List Input → List Input
with_each_factors [] inputs = inputs
with_each_factors (f ∷ each) inputs = with_each_factors each (with_change f.input (λ s. with_factors s f.factors) inputs)

-- the inputs after a message
abbrev pub inputs_with : ℕ → Message Stream → List Input → List Input
inputs_with mixed (Message.new n) inputs = with_input n.input (new_stream n.spec n.feed n.factors n.attr n.corked) inputs
inputs_with mixed (Message.attach i parcel feed factors) inputs = with_input i (applied mixed (StreamMessage.attach feed factors) parcel) inputs
inputs_with mixed (Message.detach i) inputs = without_input i inputs
inputs_with mixed (Message.write w) inputs = with_change w.input (applied mixed (StreamMessage.write w.seek w.offset w.frames w.bytes)) inputs
inputs_with mixed (Message.cork i on) inputs = with_change i (applied mixed (StreamMessage.cork on)) inputs
inputs_with mixed (Message.flush i) inputs = with_change i (applied mixed StreamMessage.flush) inputs
inputs_with mixed (Message.trigger i) inputs = with_change i (applied mixed StreamMessage.trigger) inputs
inputs_with mixed (Message.prebuf i) inputs = with_change i (applied mixed StreamMessage.prebuf) inputs
inputs_with mixed (Message.drain i tag) inputs = with_change i (applied mixed (StreamMessage.drain tag)) inputs
inputs_with mixed (Message.attr i attr) inputs = with_change i (applied mixed (StreamMessage.attr attr)) inputs
inputs_with mixed (Message.factors each) inputs = with_each_factors each inputs
inputs_with mixed (Message.query i tag) inputs = inputs

-- a write that isn't stored gives an Overflow notice
abbrev pub refusal_of : ℕ → Outcome → List (Notice Stream)
refusal_of i stored = []
refusal_of i overflow = Notice.overflow i ∷ []
refusal_of i outside = Notice.overflow i ∷ []

-- the answer to a query, with `mixed` frames mixed past the horizon and `buffered` in the sink's buffer
abbrev pub latency_of : ℕ → ℕ → Stream → Latency
latency_of mixed buffered s = record {
  write = s.queue.write;
  read = ahead_of s mixed;
  buffered = buffered;
  playing = not s.corked && is_playing (after s mixed).run;
  run = (after s mixed).run;
}

-- the notices of a stream that is there
abbrev pub notices_from : Option Stream → (Stream → List (Notice Stream)) → List (Notice Stream)
notices_from None notices = []
notices_from (Some s) notices = notices s

-- the notices of a message
abbrev pub message_notices : ℕ → ℕ → Message Stream → List Input → List (Notice Stream)
message_notices mixed buffered (Message.new n) inputs = []
message_notices mixed buffered (Message.attach i parcel feed factors) inputs = []
message_notices mixed buffered (Message.detach i) inputs = notices_from (stream_at i inputs) (λ s. Notice.detached i s ∷ [])
message_notices mixed buffered (Message.write w) inputs = notices_from (stream_at w.input inputs) (λ s. refusal_of w.input (write_outcome s w.seek w.offset w.frames w.bytes mixed))
message_notices mixed buffered (Message.cork i on) inputs = []
message_notices mixed buffered (Message.flush i) inputs = []
message_notices mixed buffered (Message.trigger i) inputs = []
message_notices mixed buffered (Message.prebuf i) inputs = []
message_notices mixed buffered (Message.drain i tag) inputs = []
message_notices mixed buffered (Message.attr i attr) inputs = []
message_notices mixed buffered (Message.factors each) inputs = []
message_notices mixed buffered (Message.query i tag) inputs = notices_from (stream_at i inputs) (λ s. Notice.latency i tag (latency_of mixed buffered s) ∷ [])

-- after all messages, in order
abbrev pub inputs_with_all : ℕ → List (Message Stream) → List Input → List Input
inputs_with_all mixed [] inputs = inputs
inputs_with_all mixed (m ∷ messages) inputs = inputs_with_all mixed messages (inputs_with mixed m inputs)

abbrev pub all_message_notices : ℕ → ℕ → List (Message Stream) → List Input → List (Notice Stream)
all_message_notices mixed buffered [] inputs = []
all_message_notices mixed buffered (m ∷ messages) inputs =
    message_notices mixed buffered m inputs ++ all_message_notices mixed buffered messages (inputs_with mixed m inputs)

-- the sink after the second step, with the messages applied
abbrev pub with_messages : Sink → List (Message Stream) → Sink
with_messages sink messages = record sink { inputs = inputs_with_all (sink.filled - sink.horizon) messages sink.inputs }

abbrev pub notices_of_messages : Sink → List (Message Stream) → List (Notice Stream)
notices_of_messages sink messages = all_message_notices (sink.filled - sink.horizon) (sink.filled - sink.consumed) messages sink.inputs

-- frame f, at or past the horizon, as mixed from the sink's streams
abbrev pub frame_mixed : Samples → ℕ → Sink → Frame
frame_mixed samples f sink = mix_of samples sink.spec (streams_of sink.inputs) (f - sink.horizon)

-- ---- 3. the frames below the horizon stay, all others are mixed afresh

abbrev pub fresh_mix : Samples → Sink → ℕ → List Frame
fresh_mix samples sink n = map (mix_of samples sink.spec (streams_of sink.inputs)) (range_with_len 0 n)

abbrev pub remixed : Samples → Sink → Sink
remixed samples sink = record sink {
  buffer = take (sink.horizon - sink.consumed) sink.buffer ++ fresh_mix samples sink (sink.consumed + sink.depth - sink.horizon);
  filled = sink.consumed + sink.depth;
}

-- ---- 4. for each stream in order, answers to drains and a request for more

-- no frame is left at the horizon
abbrev pub has_ended : Stream → Bool
has_ended s = left_of s.queue == 0

-- the frames missing of tlength, beyond those that wait and those requested already, with `mixed` frames mixed past the horizon
abbrev pub missing_of : Stream → ℕ → ℕ
missing_of s mixed = s.tlength - above s.queue.write (ahead_of s mixed) - s.requested

-- the frames to request: all that are missing, where they are at least minreq
abbrev pub request_of : Stream → ℕ → ℕ
request_of s mixed = if nat_le s.minreq (missing_of s mixed) then missing_of s mixed else 0

abbrev pub asked_stream : ℕ → Stream → Stream
asked_stream mixed s = record s {
  draining = if has_ended s then [] else s.draining;
  requested = s.requested + request_of s mixed;
}

abbrev pub asked_notices : ℕ → Input → List (Notice Stream)
asked_notices mixed x =
    (if has_ended x.stream then map (λ tag. Notice.drained x.index tag) x.stream.draining else [])
    ++ (if nat_le x.stream.minreq (missing_of x.stream mixed) then Notice.request x.index (missing_of x.stream mixed) ∷ [] else [])

-- the sink after the fourth step
abbrev pub asked : Sink → Sink
asked sink = record sink { inputs = map (with_stream (asked_stream (sink.filled - sink.horizon))) sink.inputs }

-- ---- the turn

-- the sink after its sync consumed n frames and the messages were applied
abbrev pub turned : Samples → Sink → ℕ → List (Message Stream) → Sink
turned samples sink n messages = asked (remixed samples (with_messages (settled sink n) messages))

-- the frames that it played
abbrev pub played_by : Sink → ℕ → List Frame
played_by sink n = take n sink.buffer

-- its notices: per stream Started and Underflow, then those of the messages, then per stream Drained and Request
abbrev pub turn_notices : Samples → Sink → ℕ → List (Message Stream) → List (Notice Stream)
turn_notices samples sink n messages =
    flat_map (going_notices (next_horizon sink n - sink.horizon)) sink.inputs
    ++ notices_of_messages (settled sink n) messages
    ++ flat_map (asked_notices (sink.consumed + n + sink.depth - next_horizon sink n)) (with_messages (settled sink n) messages).inputs

-- ---- the turn whose sync failed: it plays nothing, and the sink is stopped from then on

-- the first step with no frame played, after which all frames past the horizon are dropped
abbrev pub halted : Sink → Sink
halted sink = record (settled sink 0) {
  stopped = true;
  filled = next_horizon sink 0;
  buffer = take (next_horizon sink 0 - sink.consumed) sink.buffer;
}

abbrev pub stopped_turn : Sink → List (Message Stream) → Sink
stopped_turn sink messages = asked (with_messages (halted sink) messages)

abbrev pub stopped_notices : Sink → List (Message Stream) → List (Notice Stream)
stopped_notices sink messages =
    flat_map (going_notices (next_horizon sink 0 - sink.horizon)) sink.inputs
    ++ notices_of_messages (halted sink) messages
    ++ flat_map (asked_notices 0) (with_messages (halted sink) messages).inputs

-- the parcel of an Attach is a well-formed stream
abbrev pub BringsStream : Message Stream → Type 0
BringsStream (Message.new n) = ⊤
BringsStream (Message.attach i parcel feed factors) = IsStream parcel
BringsStream (Message.detach i) = ⊤
BringsStream (Message.write w) = ⊤
BringsStream (Message.cork i on) = ⊤
BringsStream (Message.flush i) = ⊤
BringsStream (Message.trigger i) = ⊤
BringsStream (Message.prebuf i) = ⊤
BringsStream (Message.drain i tag) = ⊤
BringsStream (Message.attr i attr) = ⊤
BringsStream (Message.factors each) = ⊤
BringsStream (Message.query i tag) = ⊤

-- the messages that may be posted to a sink: orderly from its inputs, with streams for parcels
pub record AreFor (sink : Sink) (messages : List (Message Stream)) : Type 0 where
  pub orderly : IsOrderly Stream.spec sink.spec (specs_of sink.inputs) messages
  pub parcels : AllByRecursion BringsStream messages
