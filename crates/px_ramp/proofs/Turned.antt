-- A ramped sink is the plain one with other bytes: its lane, its turn and its stop.
use Rattle.std.proofs.Common.{◌≡◌, ℕ, zero, suc, ◌+◌, ◌-◌, ◌*◌, ◌≤◌, List, [], ◌∷◌, ◌++◌, length, map, take, drop, ap, sym, ◌∙◌, subst, arith, length-append, length-drop}
use Rattle.std.proofs.Math.Nat.{add-mul, mul-le-mul_right}
use Rattle.std.specs.List.{AllByRecursion, concat, range_with_len}
use Rattle.std.proofs.lemmas.List.{length-take-le}
use Rattle.std.proofs.lemmas.List.FromFn.{length-map-range_with_len}
use Rattle.px_sample.specs.declared.spec.Spec.{Spec}
use Rattle.px_sample.specs.Format.{frame_size_of, IsLinear}
use Rattle.px_msg.specs.View.{sample_spec}
use Rattle.px_model.specs.Frame.{Frame, SampleSpec, frame_size, frames_of}
use Rattle.px_model.specs.Stream.{Stream}
use Rattle.px_model.specs.Message.{Message}
use Rattle.px_model.specs.Sink.{Sink, Input, IsStreamOf, streams_of}
use Rattle.px_model.specs.Turn.{next_horizon, turned, stopped_turn}
use Rattle.px_stream.specs.Samples.{samples}
use Rattle.px_stream.proofs.Sounds.{frame_size_known}
use Rattle.px_lane.specs.Taking.{AreFed}
use Rattle.px_lane.specs.Whole.{AreFramesOf}
use Rattle.px_lane.specs.Lane.{IsLane}
use Rattle.px_lane.proofs.Attached.{length_concat}
use Rattle.px_lane.proofs.Buffers.{length_frames, frames_taken, frames_dropped, frames_stay, frames_renewed}
use Rattle.px_lane.proofs.Shares.{mix_sized}
use Rattle.px_lane.proofs.Turning.{length_specs}
use Rattle.px_lane.proofs.Whole.{frames_within}
use Rattle.px_ramp.specs.declared.ramps.InputRamps.{InputRamps}
use Rattle.px_ramp.specs.Ramp.{ramps_with_all}
use Rattle.px_ramp.specs.RampMix.{RampSink, ramped_inputs, ramp_frame, ramp_turned, ramp_stopped}
use Rattle.px_ramp.specs.Lane.{ramped_of}

-- ---- a lane's inputs can be mixed

all_fed : (sink : SampleSpec) (xs : List Input) → AllByRecursion (λ x. IsStreamOf sink (Input.stream x)) xs → AreFed sink.channels xs
all_fed sink [] h = tt
all_fed sink (x ∷ xs) h = (h.0.feed_fits.places, all_fed sink xs h.1)

pub lane_fed : (sink : Sink) → IsLane sink → AreFed sink.spec.channels sink.inputs
lane_fed sink lane = all_fed sink.spec sink.inputs lane.holds.streams

pub lane_few : (sink : Sink) → IsLane sink → length sink.inputs ≤ 256
lane_few sink lane = omega (arith, length_specs sink.inputs lane.holds.rising, lane.few)

-- ---- other bytes

pub ramped_lane : (sink : Sink) (ramps : List InputRamps) (bytes : List ℕ) → IsLane sink → length bytes ≡ (sink.filled - sink.consumed) * frame_size sink.spec → IsLane (RampSink.sink (ramped_of sink ramps bytes))
ramped_lane sink ramps bytes lane full = record {
  holds = record {
    consumed_first = lane.holds.consumed_first;
    horizon_first = lane.holds.horizon_first;
    horizon_near = lane.holds.horizon_near;
    filled_bounded = lane.holds.filled_bounded;
    buffer_full = length_frames (frame_size sink.spec) (sink.filled - sink.consumed) bytes;
    rising = lane.holds.rising;
    streams = lane.holds.streams;
  };
  few = lane.few;
  low_depth = lane.low_depth;
  some_bytes = lane.some_bytes;
  whole = frames_within (frame_size sink.spec) (sink.filled - sink.consumed) bytes (omega (arith, full));
}

-- ---- what is mixed by ramps is whole

frames_sized : (spec : Spec) → IsLinear spec.format → (r h : ℕ) (ramps : List InputRamps) (inputs : List Input) (a n : ℕ)
    → AreFramesOf (frame_size_of spec) (map (ramp_frame samples r h ramps (sample_spec spec) inputs) (range_with_len a n))
frames_sized spec linear r h ramps inputs a zero = tt
frames_sized spec linear r h ramps inputs a (suc n) =
    (mix_sized spec linear (streams_of (ramped_inputs r (h + a) ramps inputs)) a, frames_sized spec linear r h ramps inputs (a + 1) n)

pub ramp_frames_sized : (sink : SampleSpec) (spec : Spec) → sample_spec spec ≡ sink → IsLinear spec.format → (r h : ℕ) (ramps : List InputRamps) (inputs : List Input) (a n : ℕ)
    → AreFramesOf (frame_size sink) (map (ramp_frame samples r h ramps sink inputs) (range_with_len a n))
ramp_frames_sized sink spec same linear r h ramps inputs a n =
    subst (λ (s : SampleSpec). AreFramesOf (frame_size s) (map (ramp_frame samples r h ramps s inputs) (range_with_len a n))) same
    (subst (λ (size : ℕ). AreFramesOf size (map (ramp_frame samples r h ramps (sample_spec spec) inputs) (range_with_len a n))) (sym (frame_size_known spec))
    (frames_sized spec linear r h ramps inputs a n))

pub same_size : (sink : SampleSpec) (spec : Spec) → sample_spec spec ≡ sink → frame_size_of spec ≡ frame_size sink
same_size sink spec same = sym (frame_size_known spec) ∙ ap frame_size same

-- ---- a turn over k frames

module _ (sink : Sink) (k : ℕ) (messages : List (Message Stream)) (bytes : List ℕ) (fresh : List Frame) (lane : IsLane sink) (there : k ≤ sink.filled - sink.consumed)
    (full : length bytes ≡ (sink.filled - sink.consumed) * frame_size sink.spec) (sized : AreFramesOf (frame_size sink.spec) fresh)
    (count : length fresh ≡ sink.consumed + k + sink.depth - next_horizon sink k) where
  abbrev size : ℕ
  size = frame_size sink.spec

  abbrev below : ℕ
  below = next_horizon sink k - (sink.consumed + k)

  abbrev rest : ℕ
  rest = sink.filled - next_horizon sink k

  total : below + (sink.consumed + k + sink.depth - next_horizon sink k) ≡ sink.consumed + k + sink.depth - (sink.consumed + k)
  total = omega (arith, lane.holds.consumed_first, lane.holds.horizon_first, lane.holds.filled_bounded, there)

  fits : below * size ≤ length (drop (k * size) bytes)
  fits =
      let few : k + below ≤ sink.filled - sink.consumed = omega (arith, lane.holds.consumed_first, lane.holds.horizon_first, there) in
      omega (arith, length-drop (k * size) bytes, full, add-mul k below size, mul-le-mul_right size few)

  frames_turned : (new : List ℕ) → new ≡ take (below * size) (drop (k * size) bytes) ++ concat fresh
      → frames_of size (sink.consumed + k + sink.depth - (sink.consumed + k)) new ≡ take below (drop k (frames_of size (sink.filled - sink.consumed) bytes)) ++ fresh
  frames_turned new made =
      let was : k + (below + rest) ≡ sink.filled - sink.consumed = omega (arith, lane.holds.consumed_first, lane.holds.horizon_first, there) in
      ap (λ (m : ℕ). frames_of size m new) (sym (ap (λ (m : ℕ). below + m) count ∙ total))
      ∙ frames_renewed size below rest (drop (k * size) bytes) new fresh made fits sized
      ∙ ap (λ (fs : List Frame). take below fs ++ fresh) (sym (frames_dropped size k (below + rest) bytes))
      ∙ ap (λ (m : ℕ). take below (drop k (frames_of size m bytes)) ++ fresh) was

  pub turned_full : (new : List ℕ) → new ≡ take (below * size) (drop (k * size) bytes) ++ concat fresh
      → length new ≡ (sink.consumed + k + sink.depth - (sink.consumed + k)) * size
  turned_full new made =
      ap length made
      ∙ length-append (take (below * size) (drop (k * size) bytes)) (concat fresh)
      ∙ (λ i. length-take-le (below * size) (drop (k * size) bytes) fits i + length_concat size fresh sized i)
      ∙ sym (add-mul below (length fresh) size)
      ∙ ap (λ (m : ℕ). m * size) (ap (λ (m : ℕ). below + m) count ∙ total)

-- the frames of a ramped turn
abbrev pub fresh_of : Sink → ℕ → ℕ → List (Message Stream) → List InputRamps → List Frame
fresh_of sink r k messages ramps =
    map (ramp_frame samples r (next_horizon sink k) ramps sink.spec (turned samples sink k messages).inputs) (range_with_len 0 (sink.consumed + k + sink.depth - next_horizon sink k))

pub count_fresh : (sink : Sink) (r k : ℕ) (messages : List (Message Stream)) (ramps : List InputRamps) → length (fresh_of sink r k messages ramps) ≡ sink.consumed + k + sink.depth - next_horizon sink k
count_fresh sink r k messages ramps =
    length-map-range_with_len (ramp_frame samples r (next_horizon sink k) ramps sink.spec (turned samples sink k messages).inputs) 0 (sink.consumed + k + sink.depth - next_horizon sink k)

pub turned_ramped : (sink : Sink) (r k : ℕ) (messages : List (Message Stream)) (old : List InputRamps) (bytes new : List ℕ) → IsLane sink → k ≤ sink.filled - sink.consumed
    → length bytes ≡ (sink.filled - sink.consumed) * frame_size sink.spec
    → AreFramesOf (frame_size sink.spec) (fresh_of sink r k messages (ramps_with_all r (next_horizon sink k) messages old))
    → new ≡ take ((next_horizon sink k - (sink.consumed + k)) * frame_size sink.spec) (drop (k * frame_size sink.spec) bytes) ++ concat (fresh_of sink r k messages (ramps_with_all r (next_horizon sink k) messages old))
    → ramped_of (turned samples sink k messages) (ramps_with_all r (next_horizon sink k) messages old) new ≡ ramp_turned samples r (ramped_of sink old bytes) k messages
turned_ramped sink r k messages old bytes new lane there full sized made =
    let now : List InputRamps = ramps_with_all r (next_horizon sink k) messages old in
    ap (λ (b : List Frame). let t : RampSink = record { sink = record (turned samples sink k messages) { buffer = b }; ramps = ramps_with_all r (next_horizon sink k) messages old } in t)
    (frames_turned sink k messages bytes (fresh_of sink r k messages (ramps_with_all r (next_horizon sink k) messages old)) lane there full sized
    (count_fresh sink r k messages (ramps_with_all r (next_horizon sink k) messages old)) new made)

-- ---- a turn whose sync failed

pub stopped_full : (sink : Sink) (bytes : List ℕ) → IsLane sink → length bytes ≡ (sink.filled - sink.consumed) * frame_size sink.spec
    → length (take ((next_horizon sink 0 - sink.consumed) * frame_size sink.spec) bytes) ≡ (next_horizon sink 0 - (sink.consumed + 0)) * frame_size sink.spec
stopped_full sink bytes lane full =
    let few : next_horizon sink 0 - sink.consumed ≤ sink.filled - sink.consumed = omega (arith, lane.holds.consumed_first, lane.holds.horizon_first) in
    let same : next_horizon sink 0 - sink.consumed ≡ next_horizon sink 0 - (sink.consumed + 0) = omega arith in
    length-take-le ((next_horizon sink 0 - sink.consumed) * frame_size sink.spec) bytes (omega (arith, full, mul-le-mul_right (frame_size sink.spec) few))
    ∙ ap (λ (m : ℕ). m * frame_size sink.spec) same

pub stopped_ramped : (sink : Sink) (r : ℕ) (messages : List (Message Stream)) (old : List InputRamps) (bytes : List ℕ) → IsLane sink
    → ramped_of (stopped_turn sink messages) (ramps_with_all r (next_horizon sink 0) messages old) (take ((next_horizon sink 0 - sink.consumed) * frame_size sink.spec) bytes)
    ≡ ramp_stopped r (ramped_of sink old bytes) messages
stopped_ramped sink r messages old bytes lane =
    let size : ℕ = frame_size sink.spec in
    let same : next_horizon sink 0 - (sink.consumed + 0) ≡ next_horizon sink 0 - sink.consumed = omega arith in
    let was : (next_horizon sink 0 - sink.consumed) + (sink.filled - next_horizon sink 0) ≡ sink.filled - sink.consumed = omega (arith, lane.holds.consumed_first, lane.holds.horizon_first) in
    ap (λ (b : List Frame). let t : RampSink = record { sink = record (stopped_turn sink messages) { buffer = b }; ramps = ramps_with_all r (next_horizon sink 0) messages old } in t)
    (ap (λ (m : ℕ). frames_of (frame_size sink.spec) m (take ((next_horizon sink 0 - sink.consumed) * frame_size sink.spec) bytes)) same
    ∙ frames_taken (frame_size sink.spec) (next_horizon sink 0 - sink.consumed) bytes
    ∙ sym (frames_stay (frame_size sink.spec) (next_horizon sink 0 - sink.consumed) (sink.filled - next_horizon sink 0) bytes)
    ∙ ap (λ (m : ℕ). take (next_horizon sink 0 - sink.consumed) (frames_of (frame_size sink.spec) m bytes)) was)
