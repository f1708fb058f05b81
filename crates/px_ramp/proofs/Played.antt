-- What a turn does to the ramps and bytes beside a plain sink.
use Rattle.std.proofs.Common.{◌≡◌, ℕ, ◌+◌, ◌-◌, ◌*◌, ◌≤◌, List, ◌++◌, length, map, take, drop, ap, sym, ◌∙◌, subst, arith}
use Rattle.std.specs.List.{concat, range_with_len}
use Rattle.px_sample.specs.declared.spec.Spec.{Spec}
use Rattle.px_sample.specs.Format.{frame_size_of}
use Rattle.px_msg.specs.View.{sample_spec}
use Rattle.px_model.specs.Frame.{SampleSpec, frame_size}
use Rattle.px_model.specs.Stream.{Stream}
use Rattle.px_model.specs.Message.{Message}
use Rattle.px_model.specs.Sink.{Sink, Input, specs_of}
use Rattle.px_model.specs.Turn.{AreFor, next_horizon, turned, stopped_turn}
use Rattle.px_stream.specs.Samples.{samples}
use Rattle.px_lane.specs.Whole.{AreFramesOf}
use Rattle.px_lane.specs.Mixing.{IsMixed}
use Rattle.px_lane.specs.Lane.{IsLane}
use Rattle.px_ramp.specs.declared.ramps.InputRamps.{InputRamps}
use Rattle.px_ramp.specs.Ramp.{ramps_with_all}
use Rattle.px_ramp.specs.RampMix.{ramp_frame, ramp_turned, ramp_stopped}
use Rattle.px_ramp.specs.Table.{HeldFrames, AreWide}
use Rattle.px_ramp.specs.Lane.{ramped_of, IsRamped}
use Rattle.px_ramp.proofs.Taking.{wide_with_all}
use Rattle.px_ramp.proofs.Turned.{fresh_of, count_fresh, same_size, ramp_frames_sized, turned_full, turned_ramped, stopped_full, stopped_ramped}

-- the same but for its ramps, which are these, and its bytes
pub record AreTaken (held taken : HeldFrames) (now : List InputRamps) : Type 0 where
  pub same_spec : taken.spec ≡ held.spec
  pub same_ramp : taken.ramp ≡ held.ramp
  pub same_depth : taken.depth ≡ held.depth
  pub ramps_are : taken.ramps ≡ now

pub same_channels : (sink : SampleSpec) (spec : Spec) → sample_spec spec ≡ sink → spec.channels ≡ sink.channels
same_channels sink spec same = ap (λ (s : SampleSpec). s.channels) same

module _ (sink : Sink) (unaltered guard : ℕ) (held : HeldFrames) (h : IsRamped sink unaltered guard held) (messages : List (Message Stream)) (are : AreFor sink messages) where
  pub still_wide : (at : ℕ) → AreWide held.spec.channels (ramps_with_all held.ramp at messages held.ramps)
  still_wide at =
      let same : held.spec.channels ≡ sink.spec.channels = same_channels sink.spec held.spec h.same_spec in
      subst (λ (n : ℕ). AreWide n (ramps_with_all held.ramp at messages held.ramps)) (sym same)
      (wide_with_all sink.spec (specs_of sink.inputs) held.ramp at messages are.orderly held.ramps (subst (λ (n : ℕ). AreWide n held.ramps) same h.wide))

  -- ---- a turn over k frames

  module _ (k : ℕ) (there : k ≤ sink.filled - sink.consumed) where
    abbrev now : List InputRamps
    now = ramps_with_all held.ramp (next_horizon sink k) messages held.ramps

    abbrev below : ℕ
    below = next_horizon sink k - (sink.consumed + k)

    sized : AreFramesOf (frame_size sink.spec) (fresh_of sink held.ramp k messages now)
    sized = ramp_frames_sized sink.spec held.spec h.same_spec h.mixed.linear held.ramp (next_horizon sink k) now (turned samples sink k messages).inputs 0 (sink.consumed + k + sink.depth - next_horizon sink k)

    pub bytes_played : (taken : HeldFrames) → AreTaken held taken now → taken.bytes ≡ held.bytes → (low at : ℕ) (inputs : List Input) (bytes : List ℕ)
        → low ≡ below → at ≡ next_horizon sink k → inputs ≡ (turned samples sink k messages).inputs
        → bytes ≡ take (low * frame_size_of taken.spec) (drop (k * frame_size_of taken.spec) taken.bytes)
        ++ concat (map (ramp_frame samples taken.ramp at taken.ramps (sample_spec taken.spec) inputs) (range_with_len 0 (taken.depth - low)))
        → bytes ≡ take (below * frame_size sink.spec) (drop (k * frame_size sink.spec) held.bytes) ++ concat (fresh_of sink held.ramp k messages now)
    bytes_played taken t kept low at inputs bytes lows ats ins made =
        let size : frame_size_of taken.spec ≡ frame_size sink.spec = ap frame_size_of t.same_spec ∙ same_size sink.spec held.spec h.same_spec in
        let more : taken.depth - low ≡ sink.consumed + k + sink.depth - next_horizon sink k =
        omega (arith, t.same_depth, h.same_depth, lows, there, h.lane.holds.consumed_first, h.lane.holds.horizon_first, h.lane.holds.filled_bounded) in
        let spec : sample_spec taken.spec ≡ sink.spec = ap sample_spec t.same_spec ∙ h.same_spec in
        made
        ∙ (λ i. take (lows i * size i) (drop (k * size i) (kept i))
        ++ concat (map (ramp_frame samples (t.same_ramp i) (ats i) (t.ramps_are i) (spec i) (ins i)) (range_with_len 0 (more i))))

    module _ (bytes : List ℕ) (made : bytes ≡ take (below * frame_size sink.spec) (drop (k * frame_size sink.spec) held.bytes) ++ concat (fresh_of sink held.ramp k messages now)) where
      pub sink_played : ramped_of (turned samples sink k messages) now bytes ≡ ramp_turned samples held.ramp (ramped_of sink held.ramps held.bytes) k messages
      sink_played = turned_ramped sink held.ramp k messages held.ramps held.bytes bytes h.lane there h.full sized made

      pub full_played : length bytes ≡ (sink.consumed + k + sink.depth - (sink.consumed + k)) * frame_size sink.spec
      full_played = turned_full sink k messages held.bytes (fresh_of sink held.ramp k messages now) h.lane there h.full sized (count_fresh sink held.ramp k messages now) bytes made

      pub held_played : (after : Sink) (unaltered' : ℕ) (new : HeldFrames) → after ≡ turned samples sink k messages → IsLane after → unaltered' ≡ after.filled - after.horizon
          → AreTaken held new now → new.bytes ≡ bytes → IsRamped after unaltered' guard new
      held_played after unaltered' new is lane mixed t so = record {
        lane = lane;
        all_mixed = mixed;
        guarded = h.guarded ∙ sym (ap (λ (s : Sink). s.guard) is);
        mixed = subst IsMixed (sym t.same_spec) h.mixed;
        same_spec = ap sample_spec t.same_spec ∙ h.same_spec ∙ sym (ap (λ (s : Sink). s.spec) is);
        same_depth = t.same_depth ∙ h.same_depth ∙ sym (ap (λ (s : Sink). s.depth) is);
        some = subst (λ (n : ℕ). 1 ≤ n) (sym t.same_ramp) h.some;
        wide = subst (λ (spec : Spec). AreWide spec.channels new.ramps) (sym t.same_spec) (subst (λ (ramps : List InputRamps). AreWide held.spec.channels ramps) (sym t.ramps_are) (still_wide (next_horizon sink k)));
        full = ap length so ∙ full_played ∙ sym (ap (λ (s : Sink). (s.filled - s.consumed) * frame_size s.spec) is);
      }

  -- ---- a turn whose sync failed

  module _ (after : Sink) (is : after ≡ stopped_turn sink messages) (new : HeldFrames) (t : AreTaken held new (ramps_with_all held.ramp (next_horizon sink 0) messages held.ramps))
      (cut : new.bytes ≡ take ((next_horizon sink 0 - sink.consumed) * frame_size sink.spec) held.bytes) where
    pub sink_stopped : ramped_of after new.ramps new.bytes ≡ ramp_stopped held.ramp (ramped_of sink held.ramps held.bytes) messages
    sink_stopped = (λ i. ramped_of (is i) (t.ramps_are i) (cut i)) ∙ stopped_ramped sink held.ramp messages held.ramps held.bytes h.lane

    pub full_stopped : length new.bytes ≡ (after.filled - after.consumed) * frame_size after.spec
    full_stopped = ap length cut ∙ stopped_full sink held.bytes h.lane h.full ∙ sym (ap (λ (s : Sink). (s.filled - s.consumed) * frame_size s.spec) is)

    pub held_stopped : (unaltered' : ℕ) → IsLane after → unaltered' ≡ after.filled - after.horizon → IsRamped after unaltered' guard new
    held_stopped unaltered' lane mixed = record {
      lane = lane;
      all_mixed = mixed;
      guarded = h.guarded ∙ sym (ap (λ (s : Sink). s.guard) is);
      mixed = subst IsMixed (sym t.same_spec) h.mixed;
      same_spec = ap sample_spec t.same_spec ∙ h.same_spec ∙ sym (ap (λ (s : Sink). s.spec) is);
      same_depth = t.same_depth ∙ h.same_depth ∙ sym (ap (λ (s : Sink). s.depth) is);
      some = subst (λ (n : ℕ). 1 ≤ n) (sym t.same_ramp) h.some;
      wide = subst (λ (spec : Spec). AreWide spec.channels new.ramps) (sym t.same_spec) (subst (λ (ramps : List InputRamps). AreWide held.spec.channels ramps) (sym t.ramps_are) (still_wide (next_horizon sink 0)));
      full = full_stopped;
    }
