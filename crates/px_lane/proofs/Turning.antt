-- What a lane keeps, turn by turn.
use Rattle.std.proofs.Common.{◌≡◌, ℕ, suc, ◌+◌, ◌-◌, ◌<◌, ◌≤◌, List, [], ◌∷◌, map, length, take, Option, Some, None, false, refl, ap, sym, ◌∙◌, subst, arith}
use Rattle.std.specs.Prelude.{◌==◌, is_some, option_map}
use Rattle.std.specs.List.{AllByRecursion}
use Rattle.std.specs.Ordering.{nat_cmp}
use Rattle.std.specs.Cmp.{nat_cmp_total}
use Rattle.std.specs.FinMap as finite
use Rattle.std.proofs.lemmas.Bool.{cond-false, cond_both}
use Rattle.std.proofs.lemmas.Bool.Decides.{nat_tests}
use Rattle.px_model.specs.Frame.{SampleSpec, frame_size}
use Rattle.px_model.specs.Stream.{Stream}
use Rattle.px_model.specs.Message.{Message}
use Rattle.px_model.specs.Orderly.{Inputs, IsOrderly, NamesInput, inputs_left, inputs_left_by}
use Rattle.px_model.specs.Mix.{Samples}
use Rattle.px_model.specs.Sink.{Sink, Input, IsSink, IsStreamOf, IsRising, AllAbove, empty_sink, specs_of, stream_at, with_stream}
use Rattle.px_model.specs.Turn.{AreFor, asked_stream, settled, with_messages, turned, halted, next_horizon, stopped_turn, request_of}
use Rattle.px_lane.specs.Mixing.{given_up}
use Rattle.px_model.proofs.Rounds.{empty_keeps, turn_keeps, stop_keeps}
use Rattle.px_model.proofs.Matching.{specs_match, turn_leaves, stop_leaves}
use Rattle.px_lane.specs.Whole.{AreFramesOf}
use Rattle.px_lane.specs.Lane.{IsLane}

pub empty_lane : (spec : SampleSpec) (guard depth : ℕ) → depth ≤ 65536 → 1 ≤ frame_size spec → IsLane (empty_sink spec guard depth)
empty_lane spec guard depth low some = record {
  holds = empty_keeps spec guard depth;
  few = subst (λ (n : ℕ). n ≤ 256) (sym (finite.len-empty nat_cmp SampleSpec)) (omega arith);
  low_depth = low;
  some_bytes = some;
  whole = tt;
}

-- ---- how many inputs there are

-- an index below all others isn't there
none_above : (i : ℕ) (xs : List Input) → AllAbove i xs → stream_at i xs ≡ None
none_above i [] h = refl
none_above i (x ∷ xs) h =
    let other : (x.index == i) ≡ false = grind (arith, nat_tests, h.0) in
    cond-false (x.index == i) (Some x.stream) (stream_at i xs) other ∙ none_above i xs h.1

-- the map of their specs has one entry an input
pub length_specs : (xs : List Input) → IsRising xs → finite.len (specs_of xs) ≡ length xs
length_specs [] h = finite.len-empty nat_cmp SampleSpec
length_specs (x ∷ xs) h =
    let new : finite.contains_key (specs_of xs) x.index ≡ false =
    ap is_some (specs_match xs x.index ∙ ap (λ (o : Option Stream). option_map Stream.spec o) (none_above x.index xs h.0)) in
    finite.len-insert nat_cmp_total (specs_of xs) x.index (Stream.spec x.stream)
    ∙ cond-false (finite.contains_key (specs_of xs) x.index) (finite.len (specs_of xs)) (finite.len (specs_of xs) + 1) new
    ∙ ap (λ (n : ℕ). n + 1) (length_specs xs h.1) ∙ omega arith

insert_few : (inputs : Inputs) (i : ℕ) (spec : SampleSpec) → finite.len inputs < 256 → finite.len (finite.insert inputs i spec) ≤ 256
insert_few inputs i spec less =
    subst (λ (n : ℕ). n ≤ 256) (sym (finite.len-insert nat_cmp_total inputs i spec))
    (cond_both (finite.contains_key inputs i) (finite.len inputs) (finite.len inputs + 1) (λ n. n ≤ 256) (λ e. omega (arith, less)) (λ e. omega (arith, less)))

remove_few : (inputs : Inputs) (i : ℕ) → finite.len inputs ≤ 256 → finite.len (finite.remove inputs i) ≤ 256
remove_few inputs i few =
    subst (λ (n : ℕ). n ≤ 256) (sym (finite.len-remove nat_cmp_total inputs i))
    (cond_both (finite.contains_key inputs i) (finite.len inputs - 1) (finite.len inputs) (λ n. n ≤ 256) (λ e. omega (arith, few)) (λ e. few))

pub message_few : (inputs : Inputs) (m : Message Stream) → NamesInput inputs m → finite.len inputs ≤ 256 → finite.len (inputs_left Stream.spec inputs m) ≤ 256
message_few inputs (Message.new n) names few = insert_few inputs n.input n.spec names.room
message_few inputs (Message.attach i parcel feed factors) names few = insert_few inputs i parcel.spec names.room
message_few inputs (Message.detach i) names few = remove_few inputs i few
message_few inputs (Message.write w) names few = few
message_few inputs (Message.cork i on) names few = few
message_few inputs (Message.flush i) names few = few
message_few inputs (Message.trigger i) names few = few
message_few inputs (Message.prebuf i) names few = few
message_few inputs (Message.drain i tag) names few = few
message_few inputs (Message.attr i attr) names few = few
message_few inputs (Message.factors each) names few = few
message_few inputs (Message.query i tag) names few = few

messages_few : (sink : SampleSpec) (inputs : Inputs) (messages : List (Message Stream)) → IsOrderly Stream.spec sink inputs messages → finite.len inputs ≤ 256
    → finite.len (inputs_left_by Stream.spec inputs messages) ≤ 256
messages_few sink inputs [] orderly few = few
messages_few sink inputs (m ∷ messages) orderly few =
    messages_few sink (inputs_left Stream.spec inputs m) messages orderly.2 (message_few inputs m orderly.0 few)

-- ---- the streams before they are asked

asked_suits : (sink : SampleSpec) (mixed : ℕ) (s : Stream) → IsStreamOf sink (asked_stream mixed s) → IsStreamOf sink s
asked_suits sink mixed s h = record {
  holds = record {
    queue_holds = h.holds.queue_holds;
    prebuf_bounded = h.holds.prebuf_bounded;
    tlength_bounded = h.holds.tlength_bounded;
    maxlength_bounded = h.holds.maxlength_bounded;
    minreq_positive = h.holds.minreq_positive;
    requested_bounded = less s.requested (request_of s mixed) h.holds.requested_bounded;
  };
  playable = h.playable;
  feed_fits = h.feed_fits;
  factors_fit = h.factors_fit;
}
  where
    less : (a b : ℕ) → a + b ≤ 4194304 → a ≤ 4194304
    less a b fit = omega (arith, fit)

all_asked_suit : (sink : SampleSpec) (mixed : ℕ) (xs : List Input) → AllByRecursion (λ x. IsStreamOf sink (Input.stream x)) (map (with_stream (asked_stream mixed)) xs)
    → AllByRecursion (λ x. IsStreamOf sink (Input.stream x)) xs
all_asked_suit sink mixed [] h = tt
all_asked_suit sink mixed (x ∷ xs) h = (asked_suits sink mixed x.stream h.0, all_asked_suit sink mixed xs h.1)

pub posted_suit : (samples : Samples) (sink : Sink) (n : ℕ) (messages : List (Message Stream)) → IsSink sink → n ≤ sink.filled - sink.consumed → AreFor sink messages
    → AllByRecursion (λ x. IsStreamOf sink.spec (Input.stream x)) (with_messages (settled sink n) messages).inputs
posted_suit samples sink n messages keeps there are =
    all_asked_suit sink.spec (sink.consumed + n + sink.depth - (settled sink n).horizon) (with_messages (settled sink n) messages).inputs
    (IsSink.streams (turn_keeps samples sink keeps n there messages are))

length_asked : (mixed : ℕ) (xs : List Input) → length (map (with_stream (asked_stream mixed)) xs) ≡ length xs
length_asked mixed [] = refl
length_asked mixed (x ∷ xs) = ap suc (length_asked mixed xs)

left_few : (samples : Samples) (sink : Sink) (n : ℕ) (messages : List (Message Stream)) → IsLane sink → AreFor sink messages → finite.len (specs_of (turned samples sink n messages).inputs) ≤ 256
left_few samples sink n messages lane are =
    subst (λ (inputs : Inputs). finite.len inputs ≤ 256) (turn_leaves samples sink n messages)
    (messages_few sink.spec (specs_of sink.inputs) messages are.orderly lane.few)

pub posted_few : (samples : Samples) (sink : Sink) (n : ℕ) (messages : List (Message Stream)) → IsLane sink → n ≤ sink.filled - sink.consumed → AreFor sink messages
    → length (with_messages (settled sink n) messages).inputs ≤ 256
posted_few samples sink n messages lane there are =
    let all = turned samples sink n messages in
    let size : finite.len (specs_of (turned samples sink n messages).inputs) ≡ length (turned samples sink n messages).inputs =
    length_specs (turned samples sink n messages).inputs (IsSink.rising (turn_keeps samples sink lane.holds n there messages are)) in
    let same = length_asked (sink.consumed + n + sink.depth - (settled sink n).horizon) (with_messages (settled sink n) messages).inputs in
    omega (arith, size, same, left_few samples sink n messages lane are)

-- ---- a lane after its turn

pub turned_lane : (samples : Samples) (sink : Sink) (n : ℕ) (messages : List (Message Stream)) → IsLane sink → n ≤ sink.filled - sink.consumed → AreFor sink messages
    → AreFramesOf (frame_size sink.spec) (turned samples sink n messages).buffer → IsLane (turned samples sink n messages)
turned_lane samples sink n messages lane there are whole = record {
  holds = turn_keeps samples sink lane.holds n there messages are;
  few = left_few samples sink n messages lane are;
  low_depth = lane.low_depth;
  some_bytes = lane.some_bytes;
  whole = whole;
}

pub stopped_lane : (sink : Sink) (messages : List (Message Stream)) → IsLane sink → AreFor sink messages
    → AreFramesOf (frame_size sink.spec) (stopped_turn sink messages).buffer → IsLane (stopped_turn sink messages)
stopped_lane sink messages lane are whole = record {
  holds = stop_keeps sink lane.holds messages are;
  few = subst (λ (inputs : Inputs). finite.len inputs ≤ 256) (stop_leaves sink messages)
      (messages_few sink.spec (specs_of sink.inputs) messages are.orderly lane.few);
  low_depth = lane.low_depth;
  some_bytes = lane.some_bytes;
  whole = whole;
}

-- a sink that went forward by no frame, and gave up the rest, is halted
pub halted_is : (sink : Sink) → given_up (settled sink 0) ≡ halted sink
halted_is sink =
    let e : sink.consumed + 0 ≡ sink.consumed = omega arith in
    ap (λ (c : ℕ). let s : Sink = record (halted sink) { buffer = take (next_horizon sink 0 - c) sink.buffer } in s) e
