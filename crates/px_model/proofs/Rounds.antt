-- What a sink keeps, it keeps under every turn and stopped turn; its horizon never falls; which frames of the buffer stay, and which are mixed afresh.
use Rattle.std.proofs.Common.{◌≡◌, ℕ, zero, suc, ◌+◌, ◌-◌, ◌<◌, ◌≤◌, min, List, [], ◌∷◌, ◌++◌, map, length, take, drop, Some, None, refl, ap, sym, subst, ◌∙◌, arith, length-append, length-take, length-drop}
use Rattle.std.proofs.lemmas.Bool.{cond-false, le-ltb}
use Rattle.std.specs.Prelude.{slice_get, nat_lt, pos, ◌+ℤ◌, fold, flat_map}
use Rattle.std.specs.Int.{saturate_signed}
use Rattle.std.specs.List.{AllByRecursion, range_with_len}
use Rattle.std.proofs.lemmas.List.FromFn.{length-map-range_with_len}
use Rattle.px_model.specs.Frame.{Frame, SampleSpec, frame_size, frames_of}
use Rattle.px_model.specs.Queue.{FrameAhead, nothing, silence, sound}
use Rattle.px_model.specs.Stream.{Stream, IsStream, frame_at}
use Rattle.px_model.specs.Going.{after, ahead_of}
use Rattle.px_model.specs.Write.{seek_of, target_of}
use Rattle.px_model.specs.Control.{corked_to, triggered, prebuffered, flushed, drained_by, with_attr, with_factors, new_stream, attached}
use Rattle.px_model.specs.Message.{Message, InputFactors}
use Rattle.px_model.specs.Orderly.{IsOrderly, Fits, Inputs, inputs_left, IsPlayable, IsFeed, AreFactors}
use Rattle.px_model.specs.Mix.{Samples, mix_of, share_of}
use Rattle.px_model.specs.Sink.{Sink, Input, IsSink, IsStreamOf, empty_sink, streams_of, specs_of, with_stream, with_change, frame_in}
use Rattle.px_model.specs.Applied.{written_by}
use Rattle.px_model.specs.Turn.{AreFor, BringsStream, inputs_with, inputs_with_all, with_each_factors, next_horizon, settled, with_messages, fresh_mix, asked_stream, turned, halted, stopped_turn, frame_mixed}
use Rattle.px_model.proofs.Streams.{after_keeps, stream_by}
use Rattle.px_model.proofs.Preserved.{written_keeps, new_keeps, attached_keeps, corked_keeps, triggered_keeps, prebuffered_keeps, flushed_keeps, drained_keeps, attr_keeps, factors_keep, asked_keeps}
use Rattle.px_model.proofs.Inputs.{AreInputs, each_keeps, change_keeps, without_keeps, with_keeps}
use Rattle.px_model.proofs.Places.{get_left, get_right, get-take, get-drop, get-range}

-- ---- messages

-- a stream of a sink stays one, where its spec, feed and factors stay
suits : (sink : SampleSpec) (s t : Stream) → IsStreamOf sink s → IsStream t → t.spec ≡ s.spec → t.feed ≡ s.feed → t.factors ≡ s.factors → IsStreamOf sink t
suits sink s t h k p f g = record {
  holds = k;
  playable = subst IsPlayable (sym p) h.playable;
  feed_fits = subst (λ x. IsFeed sink x t.feed) (sym p) (subst (λ x. IsFeed sink s.spec x) (sym f) h.feed_fits);
  factors_fit = subst (AreFactors sink) (sym g) h.factors_fit;
}

after_same : (s : Stream) (k : ℕ) → ((after s k).spec ≡ s.spec) × ((after s k).feed ≡ s.feed) × ((after s k).factors ≡ s.factors)
after_same s zero = (refl, refl, refl)
after_same s (suc k) =
    stream_by (λ t. (Stream.spec t ≡ s.spec) × (Stream.feed t ≡ s.feed) × (Stream.factors t ≡ s.factors)) s (suc k) (omega arith) (λ c. (refl, refl, refl)) (λ c. (refl, refl, refl))

factors_suit : (sink : SampleSpec) (factors : List ℕ) → AreFactors sink factors → (s : Stream) → IsStreamOf sink s → IsStreamOf sink (with_factors s factors)
factors_suit sink factors e s h = record { holds = factors_keep s h.holds factors; playable = h.playable; feed_fits = h.feed_fits; factors_fit = e }

each_factors_keep : (sink : SampleSpec) (each : List InputFactors) → AllByRecursion (λ f. AreFactors sink (InputFactors.factors f)) each → (inputs : List Input) → AreInputs (IsStreamOf sink) inputs → AreInputs (IsStreamOf sink) (with_each_factors each inputs)
each_factors_keep sink [] e inputs h = h
each_factors_keep sink (f ∷ each) e inputs h =
    each_factors_keep sink each e.1 (with_change f.input (λ s. with_factors s f.factors) inputs)
    (change_keeps (IsStreamOf sink) f.input (λ s. with_factors s f.factors) (factors_suit sink f.factors e.0) inputs h)

-- a change of a stream that leaves its spec, feed and factors
change_suits : (sink : SampleSpec) (i : ℕ) (f : Stream → Stream) → ((s : Stream) → IsStream s → IsStream (f s))
    → ((s : Stream) → Stream.spec (f s) ≡ s.spec) → ((s : Stream) → Stream.feed (f s) ≡ s.feed) → ((s : Stream) → Stream.factors (f s) ≡ s.factors)
    → (inputs : List Input) → AreInputs (IsStreamOf sink) inputs → AreInputs (IsStreamOf sink) (with_change i f inputs)
change_suits sink i f k p q r inputs h = change_keeps (IsStreamOf sink) i f (λ s x. suits sink s (f s) x (k s x.holds) (p s) (q s) (r s)) inputs h

message_keeps : (sink : SampleSpec) (there : Inputs) (mixed : ℕ) (m : Message Stream) → Fits Stream.spec sink there m → BringsStream m → (inputs : List Input) → AreInputs (IsStreamOf sink) inputs → AreInputs (IsStreamOf sink) (inputs_with mixed m inputs)
message_keeps sink there mixed (Message.new n) f b inputs h =
    with_keeps (IsStreamOf sink) n.input (new_stream n.spec n.feed n.factors n.attr n.corked) inputs
    (record { holds = new_keeps n.spec n.feed n.factors n.attr n.corked f.attr_repaired; playable = f.playable; feed_fits = f.feed_fits; factors_fit = f.factors_fit }) h
message_keeps sink there mixed (Message.attach i parcel feed factors) f b inputs h =
    with_keeps (IsStreamOf sink) i (attached parcel feed factors) inputs
    (record { holds = attached_keeps parcel b feed factors; playable = f.playable; feed_fits = f.feed_fits; factors_fit = f.factors_fit }) h
message_keeps sink there mixed (Message.detach i) f b inputs h = without_keeps (IsStreamOf sink) i inputs h
message_keeps sink there mixed (Message.write w) f b inputs h =
    change_suits sink w.input (written_by w.seek w.offset w.frames w.bytes mixed) (λ s k. written_keeps s k (target_of s.queue (seek_of w.seek) w.offset) (frames_of (frame_size s.spec) w.frames w.bytes) (ahead_of s mixed))
    (λ s. refl) (λ s. refl) (λ s. refl) inputs h
message_keeps sink there mixed (Message.cork i on) f b inputs h = change_suits sink i (λ s. corked_to s on) (λ s k. corked_keeps s k on) (λ s. refl) (λ s. refl) (λ s. refl) inputs h
message_keeps sink there mixed (Message.flush i) f b inputs h = change_suits sink i flushed flushed_keeps (λ s. refl) (λ s. refl) (λ s. refl) inputs h
message_keeps sink there mixed (Message.trigger i) f b inputs h = change_suits sink i triggered triggered_keeps (λ s. refl) (λ s. refl) (λ s. refl) inputs h
message_keeps sink there mixed (Message.prebuf i) f b inputs h = change_suits sink i prebuffered prebuffered_keeps (λ s. refl) (λ s. refl) (λ s. refl) inputs h
message_keeps sink there mixed (Message.drain i tag) f b inputs h = change_suits sink i (λ s. drained_by s tag) (λ s k. drained_keeps s k tag) (λ s. refl) (λ s. refl) (λ s. refl) inputs h
message_keeps sink there mixed (Message.attr i attr) f b inputs h = change_suits sink i (λ s. with_attr s attr) (λ s k. attr_keeps s k attr f) (λ s. refl) (λ s. refl) (λ s. refl) inputs h
message_keeps sink there mixed (Message.factors each) f b inputs h = each_factors_keep sink each f inputs h
message_keeps sink there mixed (Message.query i tag) f b inputs h = h

messages_keep : (sink : SampleSpec) (there : Inputs) (mixed : ℕ) (messages : List (Message Stream)) → IsOrderly Stream.spec sink there messages → AllByRecursion BringsStream messages → (inputs : List Input) → AreInputs (IsStreamOf sink) inputs → AreInputs (IsStreamOf sink) (inputs_with_all mixed messages inputs)
messages_keep sink there mixed [] o b inputs h = h
messages_keep sink there mixed (m ∷ messages) o b inputs h =
    messages_keep sink (inputs_left Stream.spec there m) mixed messages o.2 b.1 (inputs_with mixed m inputs) (message_keeps sink there mixed m o.1 b.0 inputs h)

-- ---- the counts

pub horizon_rises : (sink : Sink) → IsSink sink → (n : ℕ) → sink.horizon ≤ next_horizon sink n
horizon_rises sink keeps n = omega (arith, keeps.horizon_first, keeps.horizon_near)

settled_inputs : (sink : Sink) → IsSink sink → (n : ℕ) → AreInputs (IsStreamOf sink.spec) (settled sink n).inputs
settled_inputs sink keeps n =
    each_keeps (IsStreamOf sink.spec) (λ s. after s (next_horizon sink n - sink.horizon))
    (λ s h. let same = after_same s (next_horizon sink n - sink.horizon) in
    suits sink.spec s (after s (next_horizon sink n - sink.horizon)) h (after_keeps s h.holds (next_horizon sink n - sink.horizon)) same.0 same.1 same.2) sink.inputs
    (record { rising = keeps.rising; streams = keeps.streams })

-- the messages of a turn leave a sink's inputs as they are to be; they are orderly from those before it went forward
posted_inputs : (sink : Sink) → IsSink sink → (n mixed : ℕ) → (messages : List (Message Stream)) → AreFor sink messages → AreInputs (IsStreamOf sink.spec) (map (with_stream (asked_stream mixed)) (with_messages (settled sink n) messages).inputs)
posted_inputs sink keeps n mixed messages a =
    each_keeps (IsStreamOf sink.spec) (asked_stream mixed) (λ s h. suits sink.spec s (asked_stream mixed s) h (asked_keeps mixed s h.holds) refl refl refl) (with_messages (settled sink n) messages).inputs
    (messages_keep sink.spec (specs_of sink.inputs) ((settled sink n).filled - (settled sink n).horizon) messages a.orderly a.parcels (settled sink n).inputs (settled_inputs sink keeps n))

pub length-mixed : (samples : Samples) (sink : Sink) (n m : ℕ) (buffer : List Frame) (inputs : List Input) → length (take n buffer ++ map (mix_of samples sink.spec (streams_of inputs)) (range_with_len 0 m)) ≡ min n (length buffer) + m
length-mixed samples sink n m buffer inputs =
    omega (arith, length-append (take n buffer) (map (mix_of samples sink.spec (streams_of inputs)) (range_with_len 0 m)), length-take n buffer, length-map-range_with_len (mix_of samples sink.spec (streams_of inputs)) 0 m)

pub turn_keeps : (samples : Samples) (sink : Sink) → IsSink sink → (n : ℕ) → n ≤ sink.filled - sink.consumed → (messages : List (Message Stream)) → AreFor sink messages → IsSink (turned samples sink n messages)
turn_keeps samples sink keeps n h messages a =
    let inputs : AreInputs (IsStreamOf sink.spec) (turned samples sink n messages).inputs = posted_inputs sink keeps n (sink.consumed + n + sink.depth - next_horizon sink n) messages a in
    record {
      consumed_first = omega (arith, keeps.consumed_first, keeps.horizon_first);
      horizon_first = omega (arith, keeps.filled_bounded);
      horizon_near = omega arith;
      filled_bounded = omega arith;
      buffer_full = length-mixed samples sink (next_horizon sink n - (sink.consumed + n)) (sink.consumed + n + sink.depth - next_horizon sink n) (drop n sink.buffer) (with_messages (settled sink n) messages).inputs
          ∙ omega (arith, length-drop n sink.buffer, keeps.buffer_full, keeps.filled_bounded, keeps.consumed_first, keeps.horizon_first);
      rising = inputs.rising;
      streams = inputs.streams;
    }

halted_inputs : (sink : Sink) → IsSink sink → (mixed : ℕ) → (messages : List (Message Stream)) → AreFor sink messages → AreInputs (IsStreamOf sink.spec) (map (with_stream (asked_stream mixed)) (with_messages (halted sink) messages).inputs)
halted_inputs sink keeps mixed messages a =
    each_keeps (IsStreamOf sink.spec) (asked_stream mixed) (λ s h. suits sink.spec s (asked_stream mixed s) h (asked_keeps mixed s h.holds) refl refl refl) (with_messages (halted sink) messages).inputs
    (messages_keep sink.spec (specs_of sink.inputs) ((halted sink).filled - (halted sink).horizon) messages a.orderly a.parcels (halted sink).inputs (settled_inputs sink keeps 0))

pub stop_keeps : (sink : Sink) → IsSink sink → (messages : List (Message Stream)) → AreFor sink messages → IsSink (stopped_turn sink messages)
stop_keeps sink keeps messages a =
    let inputs : AreInputs (IsStreamOf sink.spec) (stopped_turn sink messages).inputs = halted_inputs sink keeps (next_horizon sink 0 - next_horizon sink 0) messages a in
    record {
      consumed_first = omega (arith, keeps.consumed_first, keeps.horizon_first);
      horizon_first = omega arith;
      horizon_near = omega arith;
      filled_bounded = omega (arith, keeps.filled_bounded);
      buffer_full = length-take (next_horizon sink 0 - sink.consumed) sink.buffer ∙ omega (arith, keeps.buffer_full, keeps.consumed_first, keeps.horizon_first);
      rising = inputs.rising;
      streams = inputs.streams;
    }

pub empty_keeps : (spec : SampleSpec) (guard depth : ℕ) → IsSink (empty_sink spec guard depth)
empty_keeps spec guard depth = record {
  consumed_first = omega arith;
  horizon_first = omega arith;
  horizon_near = omega arith;
  filled_bounded = omega arith;
  buffer_full = refl;
  rising = tt;
  streams = tt;
}

-- ---- the mix doesn't see the fourth step

share_asked : (samples : Samples) (sink : SampleSpec) (m : ℕ) (s : Stream) (channel : ℕ) (x : FrameAhead) → share_of samples sink (asked_stream m s) channel x ≡ share_of samples sink s channel x
share_asked samples sink m s channel nothing = refl
share_asked samples sink m s channel silence = refl
share_asked samples sink m s channel (sound frame) = refl

shares_asked : (samples : Samples) (sink : SampleSpec) (m k channel : ℕ) (inputs : List Input)
    → map (λ s. share_of samples sink s channel (frame_at s k)) (streams_of (map (with_stream (asked_stream m)) inputs)) ≡ map (λ s. share_of samples sink s channel (frame_at s k)) (streams_of inputs)
shares_asked samples sink m k channel [] = refl
shares_asked samples sink m k channel (x ∷ inputs) =
    λ i. share_asked samples sink m x.stream channel (frame_at x.stream k) i ∷ shares_asked samples sink m k channel inputs i

pub mix_asked : (samples : Samples) (sink : SampleSpec) (m k : ℕ) (inputs : List Input) → mix_of samples sink (streams_of (map (with_stream (asked_stream m)) inputs)) k ≡ mix_of samples sink (streams_of inputs) k
mix_asked samples sink m k inputs =
    λ i. flat_map (λ channel. samples.packed sink.format (saturate_signed (samples.width sink.format) (fold ◌+ℤ◌ (pos 0) (shares_asked samples sink m k channel inputs i)))) (range_with_len 0 sink.channels)

-- ---- the buffer

-- below the new horizon it is as before
pub get_stays : (samples : Samples) (sink : Sink) (n : ℕ) (messages : List (Message Stream)) (k : ℕ) → sink.consumed ≤ sink.filled → length sink.buffer ≡ sink.filled - sink.consumed → k < next_horizon sink n - (sink.consumed + n) → slice_get (turned samples sink n messages).buffer k ≡ slice_get sink.buffer (n + k)
get_stays samples sink n messages k first full h =
    get_left (take (next_horizon sink n - (sink.consumed + n)) (drop n sink.buffer)) (fresh_mix samples (with_messages (settled sink n) messages) (sink.consumed + n + sink.depth - next_horizon sink n)) k
    (omega (arith, length-take (next_horizon sink n - (sink.consumed + n)) (drop n sink.buffer), length-drop n sink.buffer, full))
    ∙ get-take (next_horizon sink n - (sink.consumed + n)) (drop n sink.buffer) k h
    ∙ get-drop n sink.buffer k (n + k) refl

-- and from it on the mix of the streams after the turn
pub get_fresh : (samples : Samples) (sink : Sink) (n : ℕ) (messages : List (Message Stream)) (k j : ℕ) → n ≤ sink.filled - sink.consumed → sink.consumed ≤ sink.filled → length sink.buffer ≡ sink.filled - sink.consumed
    → k ≡ next_horizon sink n - (sink.consumed + n) + j → j < sink.consumed + n + sink.depth - next_horizon sink n
    → slice_get (turned samples sink n messages).buffer k ≡ Some (mix_of samples sink.spec (streams_of (turned samples sink n messages).inputs) j)
get_fresh samples sink n messages k j h first full e l =
    get_right (take (next_horizon sink n - (sink.consumed + n)) (drop n sink.buffer)) (fresh_mix samples (with_messages (settled sink n) messages) (sink.consumed + n + sink.depth - next_horizon sink n)) j k
    (omega (arith, length-take (next_horizon sink n - (sink.consumed + n)) (drop n sink.buffer), length-drop n sink.buffer, full))
    ∙ get-range (mix_of samples sink.spec (streams_of (with_messages (settled sink n) messages).inputs)) 0 (sink.consumed + n + sink.depth - next_horizon sink n) j j l (omega arith)
    ∙ ap (λ x. Some x) (sym (mix_asked samples sink.spec (sink.consumed + n + sink.depth - next_horizon sink n) j (with_messages (settled sink n) messages).inputs))

-- ---- the same by frame

pub frame_in_from : (sink : Sink) (f k : ℕ) → sink.consumed ≤ f → k ≡ f - sink.consumed → frame_in sink f ≡ slice_get sink.buffer k
frame_in_from sink f k h e =
    cond-false (nat_lt f sink.consumed) None (slice_get sink.buffer (f - sink.consumed)) (le-ltb f sink.consumed h) ∙ ap (slice_get sink.buffer) (sym e)

pub turn_stays : (samples : Samples) (sink : Sink) → IsSink sink → (n : ℕ) → n ≤ sink.filled - sink.consumed → (messages : List (Message Stream)) (f : ℕ)
    → (turned samples sink n messages).consumed ≤ f → f < (turned samples sink n messages).horizon → frame_in (turned samples sink n messages) f ≡ frame_in sink f
turn_stays samples sink keeps n h messages f from below =
    frame_in_from (turned samples sink n messages) f (f - (sink.consumed + n)) from refl
    ∙ get_stays samples sink n messages (f - (sink.consumed + n)) (omega (arith, keeps.consumed_first, keeps.horizon_first)) keeps.buffer_full (omega arith)
    ∙ sym (frame_in_from sink f (n + (f - (sink.consumed + n))) (omega arith) (omega arith))

pub turn_fresh : (samples : Samples) (sink : Sink) → IsSink sink → (n : ℕ) → n ≤ sink.filled - sink.consumed → (messages : List (Message Stream)) (f : ℕ)
    → (turned samples sink n messages).horizon ≤ f → f < (turned samples sink n messages).filled → frame_in (turned samples sink n messages) f ≡ Some (frame_mixed samples f (turned samples sink n messages))
turn_fresh samples sink keeps n h messages f from below =
    frame_in_from (turned samples sink n messages) f (f - (sink.consumed + n)) (omega (arith, keeps.consumed_first, keeps.horizon_first)) refl
    ∙ get_fresh samples sink n messages (f - (sink.consumed + n)) (f - next_horizon sink n) h (omega (arith, keeps.consumed_first, keeps.horizon_first)) keeps.buffer_full
    (omega (arith, keeps.consumed_first, keeps.horizon_first)) (omega arith)

pub stop_stays : (sink : Sink) → IsSink sink → (messages : List (Message Stream)) (f : ℕ) → sink.consumed ≤ f → f < (stopped_turn sink messages).horizon → frame_in (stopped_turn sink messages) f ≡ frame_in sink f
stop_stays sink keeps messages f from below =
    frame_in_from (stopped_turn sink messages) f (f - sink.consumed) (omega arith) (omega arith)
    ∙ get-take (next_horizon sink 0 - sink.consumed) sink.buffer (f - sink.consumed) (omega arith)
    ∙ sym (frame_in_from sink f (f - sink.consumed) from refl)
