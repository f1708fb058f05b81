-- The parcels that a turn's notices give up are streams with all that a stream keeps.
use Rattle.std.proofs.Common.{ℕ, zero, suc, ◌+◌, ◌-◌, List, [], ◌∷◌, ◌++◌, map, take, drop, Some, Bool, true, false, cond}
use Rattle.std.specs.Prelude.{flat_map, nat_le, ◌==◌}
use Rattle.std.specs.List.{AllByRecursion}
use Rattle.std.proofs.lemmas.Bool.{cond_both}
use Rattle.px_model.specs.Frame.{SampleSpec, frame_size, frames_of}
use Rattle.px_model.specs.Stream.{Stream, IsStream}
use Rattle.px_model.specs.Going.{after, ahead_of}
use Rattle.px_model.specs.Write.{Outcome, stored, overflow, outside, seek_of, target_of}
use Rattle.px_model.specs.Control.{corked_to, triggered, prebuffered, flushed, drained_by, with_attr, with_factors, new_stream, attached}
use Rattle.px_model.specs.Applied.{written_by, write_outcome}
use Rattle.px_model.specs.Message.{Message, InputFactors}
use Rattle.px_model.specs.Notice.{Notice}
use Rattle.px_model.specs.Mix.{Samples}
use Rattle.px_model.specs.Orderly.{Inputs, IsOrderly, Fits, inputs_left}
use Rattle.px_model.specs.Sink.{Sink, Input, IsSink, IsStreamOf, specs_of, stream_at, with_change}
use Rattle.px_model.specs.Turn.{AreFor, BringsStream, inputs_with, with_each_factors, refusal_of, notices_from, message_notices, all_message_notices, with_messages, notices_of_messages, going_notices, has_started, has_run_out, asked_notices, has_ended, missing_of, next_horizon, settled, halted, turn_notices, stopped_notices}
use Rattle.px_model.proofs.Streams.{after_keeps}
use Rattle.px_model.proofs.Preserved.{written_keeps, new_keeps, attached_keeps, corked_keeps, triggered_keeps, prebuffered_keeps, flushed_keeps, drained_keeps, attr_keeps, factors_keep}
use Rattle.px_model.proofs.Inputs.{AreInputs, each_keeps, change_keeps, without_keeps, with_keeps}
use Rattle.px_world.specs.Consistency.{GivesStream}

-- notices that give up no parcel but such a stream
abbrev AllGive : List (Notice Stream) → Type 0
AllGive notices = AllByRecursion GivesStream notices

pub join_gives : (xs ys : List (Notice Stream)) → AllGive xs → AllGive ys → AllGive (xs ++ ys)
join_gives [] ys h k = k
join_gives (x ∷ xs) ys h k = (h.0, join_gives xs ys h.1 k)

pub drop_gives : (n : ℕ) (xs : List (Notice Stream)) → AllGive xs → AllGive (drop n xs)
drop_gives zero xs h = h
drop_gives (suc n) [] h = tt
drop_gives (suc n) (x ∷ xs) h = drop_gives n xs h.1

pub take_gives : (n : ℕ) (xs : List (Notice Stream)) → AllGive xs → AllGive (take n xs)
take_gives zero xs h = tt
take_gives (suc n) [] h = tt
take_gives (suc n) (x ∷ xs) h = (h.0, take_gives n xs h.1)

-- notices of each input, of which none gives up a stream
each_gives : (f : Input → List (Notice Stream)) → ((x : Input) → AllGive (f x)) → (xs : List Input) → AllGive (flat_map f xs)
each_gives f k [] = tt
each_gives f k (x ∷ xs) = join_gives (f x) (flat_map f xs) (k x) (each_gives f k xs)

one_or_none : (b : Bool) (n : Notice Stream) → GivesStream n → AllGive (cond b (n ∷ []) [])
one_or_none true n h = (h, tt)
one_or_none false n h = tt

going_give : (k : ℕ) (x : Input) → AllGive (going_notices k x)
going_give k x =
    join_gives (cond (has_started x.stream k) (Notice.started x.index ∷ []) []) (cond (has_run_out x.stream k) (Notice.underflow x.index ∷ []) [])
    (one_or_none (has_started x.stream k) (Notice.started x.index) tt) (one_or_none (has_run_out x.stream k) (Notice.underflow x.index) tt)

drained_give : (i : ℕ) (tags : List ℕ) → AllGive (map (λ tag. Notice.drained i tag) tags)
drained_give i [] = tt
drained_give i (tag ∷ tags) = (tt, drained_give i tags)

asked_give : (mixed : ℕ) (x : Input) → AllGive (asked_notices mixed x)
asked_give mixed x =
    join_gives (cond (has_ended x.stream) (map (λ tag. Notice.drained x.index tag) x.stream.draining) [])
    (cond (nat_le x.stream.minreq (missing_of x.stream mixed)) (Notice.request x.index (missing_of x.stream mixed) ∷ []) [])
    (cond_both (has_ended x.stream) (map (λ tag. Notice.drained x.index tag) x.stream.draining) [] AllGive (λ e. drained_give x.index x.stream.draining) (λ e. tt))
    (one_or_none (nat_le x.stream.minreq (missing_of x.stream mixed)) (Notice.request x.index (missing_of x.stream mixed)) tt)

-- ---- the messages of a turn

-- the streams of the inputs are such streams
abbrev AreStreams : List Input → Type 0
AreStreams inputs = AreInputs IsStream inputs

factors_streams : (each : List InputFactors) (inputs : List Input) → AreStreams inputs → AreStreams (with_each_factors each inputs)
factors_streams [] inputs h = h
factors_streams (f ∷ each) inputs h =
    factors_streams each (with_change f.input (λ s. with_factors s f.factors) inputs) (change_keeps IsStream f.input (λ s. with_factors s f.factors) (λ s k. factors_keep s k f.factors) inputs h)

message_streams : (sink : SampleSpec) (there : Inputs) (mixed : ℕ) (m : Message Stream) → Fits Stream.spec sink there m → BringsStream m → (inputs : List Input) → AreStreams inputs → AreStreams (inputs_with mixed m inputs)
message_streams sink there mixed (Message.new n) f b inputs h = with_keeps IsStream n.input (new_stream n.spec n.feed n.factors n.attr n.corked) inputs (new_keeps n.spec n.feed n.factors n.attr n.corked f.attr_repaired) h
message_streams sink there mixed (Message.attach i parcel feed factors) f b inputs h = with_keeps IsStream i (attached parcel feed factors) inputs (attached_keeps parcel b feed factors) h
message_streams sink there mixed (Message.detach i) f b inputs h = without_keeps IsStream i inputs h
message_streams sink there mixed (Message.write w) f b inputs h =
    change_keeps IsStream w.input (written_by w.seek w.offset w.frames w.bytes mixed)
    (λ s k. written_keeps s k (target_of s.queue (seek_of w.seek) w.offset) (frames_of (frame_size s.spec) w.frames w.bytes) (ahead_of s mixed)) inputs h
message_streams sink there mixed (Message.cork i on) f b inputs h = change_keeps IsStream i (λ s. corked_to s on) (λ s k. corked_keeps s k on) inputs h
message_streams sink there mixed (Message.flush i) f b inputs h = change_keeps IsStream i flushed flushed_keeps inputs h
message_streams sink there mixed (Message.trigger i) f b inputs h = change_keeps IsStream i triggered triggered_keeps inputs h
message_streams sink there mixed (Message.prebuf i) f b inputs h = change_keeps IsStream i prebuffered prebuffered_keeps inputs h
message_streams sink there mixed (Message.drain i tag) f b inputs h = change_keeps IsStream i (λ s. drained_by s tag) (λ s k. drained_keeps s k tag) inputs h
message_streams sink there mixed (Message.attr i attr) f b inputs h = change_keeps IsStream i (λ s. with_attr s attr) (λ s k. attr_keeps s k attr f) inputs h
message_streams sink there mixed (Message.factors each) f b inputs h = factors_streams each inputs h
message_streams sink there mixed (Message.query i tag) f b inputs h = h

-- a stream that is there is one of them
from_gives : (i : ℕ) (inputs : List Input) → AllByRecursion (λ x. IsStream (Input.stream x)) inputs → (notices : Stream → List (Notice Stream)) → ((s : Stream) → IsStream s → AllGive (notices s)) → AllGive (notices_from (stream_at i inputs) notices)
from_gives i [] h notices k = tt
from_gives i (x ∷ inputs) h notices k =
    cond_both (x.index == i) (Some x.stream) (stream_at i inputs) (λ o. AllGive (notices_from o notices)) (λ e. k x.stream h.0) (λ e. from_gives i inputs h.1 notices k)

refusal_gives : (i : ℕ) (o : Outcome) → AllGive (refusal_of i o)
refusal_gives i stored = tt
refusal_gives i overflow = (tt, tt)
refusal_gives i outside = (tt, tt)

message_gives : (mixed buffered : ℕ) (m : Message Stream) (inputs : List Input) → AreStreams inputs → AllGive (message_notices mixed buffered m inputs)
message_gives mixed buffered (Message.new n) inputs h = tt
message_gives mixed buffered (Message.attach i parcel feed factors) inputs h = tt
message_gives mixed buffered (Message.detach i) inputs h = from_gives i inputs h.streams (λ s. Notice.detached i s ∷ []) (λ s k. ((k, tt), tt))
message_gives mixed buffered (Message.write w) inputs h =
    from_gives w.input inputs h.streams (λ s. refusal_of w.input (write_outcome s w.seek w.offset w.frames w.bytes mixed)) (λ s k. refusal_gives w.input (write_outcome s w.seek w.offset w.frames w.bytes mixed))
message_gives mixed buffered (Message.cork i on) inputs h = tt
message_gives mixed buffered (Message.flush i) inputs h = tt
message_gives mixed buffered (Message.trigger i) inputs h = tt
message_gives mixed buffered (Message.prebuf i) inputs h = tt
message_gives mixed buffered (Message.drain i tag) inputs h = tt
message_gives mixed buffered (Message.attr i attr) inputs h = tt
message_gives mixed buffered (Message.factors each) inputs h = tt
message_gives mixed buffered (Message.query i tag) inputs h = from_gives i inputs h.streams _ (λ s k. (tt, tt))

messages_give : (sink : SampleSpec) (there : Inputs) (mixed buffered : ℕ) (messages : List (Message Stream)) → IsOrderly Stream.spec sink there messages → AllByRecursion BringsStream messages → (inputs : List Input) → AreStreams inputs → AllGive (all_message_notices mixed buffered messages inputs)
messages_give sink there mixed buffered [] o b inputs h = tt
messages_give sink there mixed buffered (m ∷ messages) o b inputs h =
    join_gives (message_notices mixed buffered m inputs) (all_message_notices mixed buffered messages (inputs_with mixed m inputs)) (message_gives mixed buffered m inputs h)
    (messages_give sink (inputs_left Stream.spec there m) mixed buffered messages o.2 b.1 (inputs_with mixed m inputs) (message_streams sink there mixed m o.1 b.0 inputs h))

-- ---- a turn

streams_hold : (sink : SampleSpec) (inputs : List Input) → AllByRecursion (λ x. IsStreamOf sink (Input.stream x)) inputs → AllByRecursion (λ x. IsStream (Input.stream x)) inputs
streams_hold sink [] h = tt
streams_hold sink (x ∷ inputs) h = (h.0.holds, streams_hold sink inputs h.1)

settled_streams : (sink : Sink) → IsSink sink → (n : ℕ) → AreStreams (settled sink n).inputs
settled_streams sink keeps n =
    each_keeps IsStream (λ s. after s (next_horizon sink n - sink.horizon)) (λ s k. after_keeps s k (next_horizon sink n - sink.horizon)) sink.inputs
    (record { rising = keeps.rising; streams = streams_hold sink.spec sink.inputs keeps.streams })

pub turn_gives : (samples : Samples) (sink : Sink) → IsSink sink → (n : ℕ) (messages : List (Message Stream)) → AreFor sink messages → AllGive (turn_notices samples sink n messages)
turn_gives samples sink keeps n messages a =
    join_gives (flat_map (going_notices (next_horizon sink n - sink.horizon)) sink.inputs ++ notices_of_messages (settled sink n) messages) (flat_map (asked_notices (sink.consumed + n + sink.depth - next_horizon sink n)) (with_messages (settled sink n) messages).inputs)
    (join_gives (flat_map (going_notices (next_horizon sink n - sink.horizon)) sink.inputs) (notices_of_messages (settled sink n) messages)
    (each_gives (going_notices (next_horizon sink n - sink.horizon)) (going_give (next_horizon sink n - sink.horizon)) sink.inputs)
    (messages_give sink.spec (specs_of sink.inputs) ((settled sink n).filled - (settled sink n).horizon) ((settled sink n).filled - (settled sink n).consumed) messages a.orderly a.parcels (settled sink n).inputs (settled_streams sink keeps n)))
    (each_gives (asked_notices (sink.consumed + n + sink.depth - next_horizon sink n)) (asked_give (sink.consumed + n + sink.depth - next_horizon sink n)) (with_messages (settled sink n) messages).inputs)

pub stop_gives : (sink : Sink) → IsSink sink → (messages : List (Message Stream)) → AreFor sink messages → AllGive (stopped_notices sink messages)
stop_gives sink keeps messages a =
    join_gives (flat_map (going_notices (next_horizon sink 0 - sink.horizon)) sink.inputs ++ notices_of_messages (halted sink) messages) (flat_map (asked_notices 0) (with_messages (halted sink) messages).inputs)
    (join_gives (flat_map (going_notices (next_horizon sink 0 - sink.horizon)) sink.inputs) (notices_of_messages (halted sink) messages)
    (each_gives (going_notices (next_horizon sink 0 - sink.horizon)) (going_give (next_horizon sink 0 - sink.horizon)) sink.inputs)
    (messages_give sink.spec (specs_of sink.inputs) ((halted sink).filled - (halted sink).horizon) ((halted sink).filled - (halted sink).consumed) messages a.orderly a.parcels (halted sink).inputs (settled_streams sink keeps 0)))
    (each_gives (asked_notices 0) (asked_give 0) (with_messages (halted sink) messages).inputs)
