-- A ramped turn keeps what a plain one keeps of a sink: only the frames of its buffer are others, and there are as many.
use Rattle.std.proofs.Common.{◌≡◌, ℕ, ◌+◌, ◌-◌, ◌<◌, ◌≤◌, List, [], ◌∷◌, ◌++◌, get_or, map, take, drop, length, Some, Bool, true, false, cond, refl, ap, sym, subst, ◌∙◌, arith, length-take, length-drop, length-append}
use Rattle.std.specs.Prelude.{set, replicate, slice_get}
use Rattle.std.specs.List.{range_with_len}
use Rattle.std.proofs.lemmas.List.{length-map, map-set}
use Rattle.std.proofs.lemmas.List.FromFn.{length-map-range_with_len}
use Rattle.px_header.specs.declared.header.SinkSpec.{SinkSpec}
use Rattle.px_model.specs.Frame.{Frame}
use Rattle.px_model.specs.Message.{Message}
use Rattle.px_model.specs.Stream.{Stream}
use Rattle.px_model.specs.Sink.{Sink, IsSink, specs_of}
use Rattle.px_model.specs.Orderly.{inputs_left_by}
use Rattle.px_model.specs.Turn.{next_horizon, turned, AreFor}
use Rattle.px_msg.specs.View.{message_of}
use Rattle.px_state.specs.State.{State}
use Rattle.px_state.specs.Out.{waiting_for}
use Rattle.px_core.specs.Orderly.{inputs_there}
use Rattle.px_core.specs.Step.{out, sweep, stepped_by}
use Rattle.px_stream.specs.Samples.{samples}
use Rattle.px_ramp.specs.RampMix.{RampSink, ramp_mixed, ramp_turned}
use Rattle.px_world.specs.World.{Mixer}
use Rattle.px_world.specs.Event.{is_to_stop, mixer_stopped, mixer_played}
use Rattle.px_world.specs.Consistency.{IsMixerOf, AreConsistent}
use Rattle.px_world.proofs.Consistent.{turned_is, turn_left, turn_consistent, turn-messages}
use Rattle.px_world.proofs.Sounding.{seen-at, sink-there}
use Rattle.px_ramp_world.specs.World.{RampedMixer, plain_mixer}
use Rattle.px_ramp_world.specs.Event.{ramped_stopped, ramped_played, ramped_turned}

-- as many frames as there are from consumed to filled
full : (n : ℕ) (rs : RampSink) (k : ℕ) (messages : List (Message Stream)) → IsSink rs.sink → k ≤ rs.sink.filled - rs.sink.consumed
    → length (ramp_turned samples n rs k messages).sink.buffer ≡ (turned samples rs.sink k messages).filled - (turned samples rs.sink k messages).consumed
full n rs k messages h few =
    let below : ℕ = next_horizon rs.sink k - (rs.sink.consumed + k) in
    let more : ℕ = rs.sink.consumed + k + rs.sink.depth - next_horizon rs.sink k in
    let mixed : ℕ → Frame = ramp_mixed samples n (ramp_turned samples n rs k messages).ramps (turned samples rs.sink k messages) in
    length-append (take below (drop k rs.sink.buffer)) (map mixed (range_with_len 0 more))
    ∙ omega (arith, length-take below (drop k rs.sink.buffer), length-map-range_with_len mixed 0 more, length-drop k rs.sink.buffer, h.buffer_full, h.consumed_first, h.horizon_first, h.filled_bounded, few)

-- a mixer is that of its sink with other frames in its buffer too
rebuffered : (core : State Stream) (k : ℕ) (s : SinkSpec) (m : Mixer) (buffer : List Frame) → length buffer ≡ m.sink.filled - m.sink.consumed → IsMixerOf core k s m
    → IsMixerOf core k s (record m { sink = record m.sink { buffer = buffer } })
rebuffered core k s m buffer whole h = record {
  spec = h.spec;
  consistent = record {
    consumed_first = h.consistent.consumed_first;
    horizon_first = h.consistent.horizon_first;
    horizon_near = h.consistent.horizon_near;
    filled_bounded = h.consistent.filled_bounded;
    buffer_full = whole;
    rising = h.consistent.rising;
    streams = h.consistent.streams;
  };
  inputs = h.inputs;
  gives = h.gives;
}

ramped-is : (after : State Stream) (k : ℕ) (s : SinkSpec) (m : RampedMixer) (frames : ℕ) (messages : List (Message Stream)) → IsSink m.ramped.sink → frames ≤ m.ramped.sink.filled - m.ramped.sink.consumed → (b : Bool)
    → IsMixerOf after k s (cond b (mixer_stopped (plain_mixer m) messages) (mixer_played (plain_mixer m) frames messages)) → IsMixerOf after k s (plain_mixer (cond b (ramped_stopped m messages) (ramped_played m frames messages)))
ramped-is after k s m frames messages holds few true h = h
ramped-is after k s m frames messages holds few false h =
    rebuffered after k s (mixer_played (plain_mixer m) frames messages) (ramp_turned samples m.ramp m.ramped frames messages).sink.buffer (full m.ramp m.ramped frames messages holds few) h

module _ {X : Type 0} (v : X → RampedMixer) (xs : List X) (k : ℕ) (d : X) (within : k < length xs) (core : State Stream) (h : AreConsistent core (map (λ x. plain_mixer (v x)) xs)) where
  pub ramped-consistent : (after : State Stream) (frames count : ℕ) (next : X) → frames ≤ (v (get_or xs k d)).ramped.sink.filled - (v (get_or xs k d)).ramped.sink.consumed
      → v next ≡ ramped_turned (v (get_or xs k d)) frames (map (message_of (λ p. p)) (take count (waiting_for core (record { 0 = k }))))
      → after ≡ stepped_by Stream.spec core (replicate count (out (record { 0 = k })) ++ sweep ∷ []) → AreConsistent after (map (λ x. plain_mixer (v x)) (set xs k next))
  ramped-consistent after frames count next few turned e =
      let m : RampedMixer = v (get_or xs k d) in
      let messages : List (Message Stream) = map (message_of (λ p. p)) (take count (waiting_for core (record { 0 = k }))) in
      let plain : List Mixer = map (λ x. plain_mixer (v x)) xs in
      let later : State Stream = stepped_by Stream.spec core (replicate count (out (record { 0 = k })) ++ sweep ∷ []) in
      let sinks = sink-there core.sinks k (omega (arith, within, h.count, length-map xs (λ x. plain_mixer (v x)))) in
      let there : slice_get plain k ≡ Some (plain_mixer m) = seen-at (λ x. plain_mixer (v x)) xs k d within in
      let it : IsMixerOf core k sinks.0 (plain_mixer m) = h.each k sinks.0 (plain_mixer m) sinks.1 there in
      let is : IsMixerOf later k sinks.0 (plain_mixer (ramped_turned m frames messages)) =
      ramped-is later k sinks.0 m frames messages it.consistent few (is_to_stop (plain_mixer m))
      (turned_is core later k sinks.0 (plain_mixer m) frames messages it (turn-messages core plain k sinks.0 (plain_mixer m) count h sinks.1 there) few
      (turn_left core k sinks.0 count h.core_consistent sinks.1 ∙ ap (λ inputs. inputs_left_by Stream.spec inputs messages) (sym it.inputs))) in
      subst (AreConsistent after) (sym (map-set (λ x. plain_mixer (v x)) xs k next ∙ ap (λ (r : RampedMixer). set plain k (plain_mixer r)) turned))
      (subst (λ t. AreConsistent t (set plain k (plain_mixer (ramped_turned m frames messages)))) (sym e)
      (turn_consistent core plain k sinks.0 (plain_mixer m) (plain_mixer (ramped_turned m frames messages)) count h sinks.1 there is))
