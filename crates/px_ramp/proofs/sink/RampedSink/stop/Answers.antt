use Rattle.std.proofs.Common.{◌≡◌, ℕ, ◌+◌, ◌-◌, ◌*◌, ◌^◌, ◌≤◌, length, min, take, ap, sym, ◌∙◌, subst, arith}
use Rattle.std.proofs.Math.Nat.{mul-le-mul_right}
use Rattle.px_sample.specs.Format.{frame_size_of}
use Rattle.px_model.specs.Frame.{frame_size}
use Rattle.px_model.specs.Turn.{AreFor, next_horizon, stopped_notices}
use Rattle.px_ramp.specs.Ramp.{ramps_with_all}
use Rattle.px_ramp.specs.RampMix.{ramp_stopped}
use Rattle.px_ramp.specs.Lane.{RoomyRampSink}
use Rattle.px_ramp.proofs.Turned.{same_size, ramped_lane}
use Rattle.px_ramp.proofs.Played.{AreTaken, still_wide, sink_stopped, full_stopped, held_stopped}
use Rattle.px_ramp.proofs.sink.RampedSink.stop.Goals as goal

pub horizon_after-at-requires : goal.horizon_after-at-requires
horizon_after-at-requires g c =
    let few : c.self.inside.mixer.sink.filled ≤ 2 ^ 60 = subst (λ (s : RoomyRampSink). s.ramped.sink.filled ≤ 2 ^ 60) (sym c.self.view_is) c.requires.countable in
    let keeps = c.self.invariant.lane.holds in
    omega (arith, few, keeps.consumed_first, keeps.horizon_first)

pub take_all-requires-clause-room : goal.take_all-requires-clause-room
take_all-requires-clause-room g c = subst (λ (s : RoomyRampSink). c.args.count ≤ s.ramp_room) (sym c.self.view_is) c.requires.ramp_room

pub take_all-requires-clause-wide : goal.take_all-requires-clause-wide
take_all-requires-clause-wide g c =
    let d = c.self.inside in
    let are = subst (λ (s : RoomyRampSink). AreFor s.ramped.sink c.args.messages.now.messages) (sym c.self.view_is) c.requires.messages in
    still_wide d.mixer.sink d.mixer.unaltered d.guard d.held c.self.invariant c.args.messages.now.messages (record { orderly = are.orderly; parcels = are.parcels }) c.horizon_after-at.result

pub stop-requires-clause-lane : goal.stop-requires-clause-lane
stop-requires-clause-lane g c = c.self.invariant.lane

pub stop-requires-clause-mixed : goal.stop-requires-clause-mixed
stop-requires-clause-mixed g c = c.self.invariant.all_mixed

pub stop-requires-clause-messages : goal.stop-requires-clause-messages
stop-requires-clause-messages g c =
    let are = subst (λ (s : RoomyRampSink). AreFor s.ramped.sink c.args.messages.now.messages) (sym c.self.view_is) c.requires.messages in
    record { orderly = are.orderly; parcels = are.parcels }

pub stop-requires-clause-room : goal.stop-requires-clause-room
stop-requires-clause-room g c = subst (λ (s : RoomyRampSink). length c.args.messages.now.messages ≤ s.room) (sym c.self.view_is) c.requires.room

pub stop-requires-clause-comes : goal.stop-requires-clause-comes
stop-requires-clause-comes g c = subst (λ (s : RoomyRampSink). s.room ≤ c.args.messages.now.room) (sym c.self.view_is) c.requires.comes

pub stop-requires-clause-blocks_come : goal.stop-requires-clause-blocks_come
stop-requires-clause-blocks_come g c = subst (λ (s : RoomyRampSink). s.block_room ≤ c.args.messages.now.block_room) (sym c.self.view_is) c.requires.blocks_come

pub stop-requires-clause-capacity : goal.stop-requires-clause-capacity
stop-requires-clause-capacity g c =
    subst (λ (s : RoomyRampSink). length c.args.out.now.notices + length (stopped_notices s.ramped.sink c.args.messages.now.messages) ≤ c.args.out.now.capacity) (sym c.self.view_is) c.requires.capacity

pub cut-requires : goal.cut-requires
cut-requires g c =
    let d = c.self.inside in
    let h = c.self.invariant in
    let sink = d.mixer.sink in
    let t = c.take_all.new.self in
    let few : c.horizon_after-at.result - c.consumed.result ≤ sink.filled - sink.consumed = omega (arith, c.horizon_after-at.ensures, c.consumed.ensures) in
    let size : frame_size_of t.spec ≡ frame_size sink.spec = ap frame_size_of c.take_all.ensures.spec ∙ same_size sink.spec d.held.spec h.same_spec in
    record {
      held = subst (λ (m : ℕ). (c.horizon_after-at.result - c.consumed.result) * m ≤ length t.bytes) (sym size)
          (omega (arith, h.full, ap length c.take_all.ensures.bytes, mul-le-mul_right (frame_size sink.spec) few));
    }

pub returns-clause-ramped : goal.returns-clause-ramped
returns-clause-ramped g c =
    let d = c.self.inside in
    let h = c.self.invariant in
    let sink = d.mixer.sink in
    let messages = c.args.messages.now.messages in
    let posted = subst (λ (s : RoomyRampSink). AreFor s.ramped.sink messages) (sym c.self.view_is) c.requires.messages in
    let are : AreFor sink messages = record { orderly = posted.orderly; parcels = posted.parcels } in
    let at : c.horizon_after-at.result ≡ next_horizon sink 0 = c.horizon_after-at.ensures ∙ ap (λ (n : ℕ). min sink.filled (sink.consumed + 0 + n)) h.guarded in
    let taken : AreTaken d.held c.cut.new.self (ramps_with_all d.held.ramp (next_horizon sink 0) messages d.held.ramps) = record {
      same_spec = c.cut.ensures.spec ∙ c.take_all.ensures.spec;
      same_ramp = c.cut.ensures.ramp ∙ c.take_all.ensures.ramp;
      same_depth = c.cut.ensures.depth ∙ c.take_all.ensures.depth;
      ramps_are = c.cut.ensures.ramps ∙ c.take_all.ensures.ramps ∙ ap (λ (n : ℕ). ramps_with_all d.held.ramp n messages d.held.ramps) at;
    } in
    let size : frame_size_of c.take_all.new.self.spec ≡ frame_size sink.spec = ap frame_size_of c.take_all.ensures.spec ∙ same_size sink.spec d.held.spec h.same_spec in
    let cut : c.cut.new.self.bytes ≡ take ((next_horizon sink 0 - sink.consumed) * frame_size sink.spec) d.held.bytes =
    c.cut.ensures.bytes ∙ (λ i. take ((at i - c.consumed.ensures i) * size i) (c.take_all.ensures.bytes i)) in
    sink_stopped sink d.mixer.unaltered d.guard d.held h messages are c.stop.new.self.sink c.stop.ensures.value c.cut.new.self taken cut
    ∙ ap (λ (s : RoomyRampSink). ramp_stopped s.ramp s.ramped messages) c.self.view_is

pub returns-clause-ramp : goal.returns-clause-ramp
returns-clause-ramp g c = c.cut.ensures.ramp ∙ c.take_all.ensures.ramp ∙ ap (λ (s : RoomyRampSink). s.ramp) c.self.view_is

pub returns-clause-lane : goal.returns-clause-lane
returns-clause-lane g c =
    let d = c.self.inside in
    let h = c.self.invariant in
    let sink = d.mixer.sink in
    let messages = c.args.messages.now.messages in
    let posted = subst (λ (s : RoomyRampSink). AreFor s.ramped.sink messages) (sym c.self.view_is) c.requires.messages in
    let are : AreFor sink messages = record { orderly = posted.orderly; parcels = posted.parcels } in
    let at : c.horizon_after-at.result ≡ next_horizon sink 0 = c.horizon_after-at.ensures ∙ ap (λ (n : ℕ). min sink.filled (sink.consumed + 0 + n)) h.guarded in
    let taken : AreTaken d.held c.cut.new.self (ramps_with_all d.held.ramp (next_horizon sink 0) messages d.held.ramps) = record {
      same_spec = c.cut.ensures.spec ∙ c.take_all.ensures.spec;
      same_ramp = c.cut.ensures.ramp ∙ c.take_all.ensures.ramp;
      same_depth = c.cut.ensures.depth ∙ c.take_all.ensures.depth;
      ramps_are = c.cut.ensures.ramps ∙ c.take_all.ensures.ramps ∙ ap (λ (n : ℕ). ramps_with_all d.held.ramp n messages d.held.ramps) at;
    } in
    let size : frame_size_of c.take_all.new.self.spec ≡ frame_size sink.spec = ap frame_size_of c.take_all.ensures.spec ∙ same_size sink.spec d.held.spec h.same_spec in
    let cut : c.cut.new.self.bytes ≡ take ((next_horizon sink 0 - sink.consumed) * frame_size sink.spec) d.held.bytes =
    c.cut.ensures.bytes ∙ (λ i. take ((at i - c.consumed.ensures i) * size i) (c.take_all.ensures.bytes i)) in
    ramped_lane c.stop.new.self.sink c.cut.new.self.ramps c.cut.new.self.bytes c.stop.ensures.lane (full_stopped sink d.mixer.unaltered d.guard d.held h messages are c.stop.new.self.sink c.stop.ensures.value c.cut.new.self taken cut)

pub invariant_of-self : goal.invariant_of-self
invariant_of-self g c =
    let d = c.self.inside in
    let h = c.self.invariant in
    let sink = d.mixer.sink in
    let messages = c.args.messages.now.messages in
    let posted = subst (λ (s : RoomyRampSink). AreFor s.ramped.sink messages) (sym c.self.view_is) c.requires.messages in
    let are : AreFor sink messages = record { orderly = posted.orderly; parcels = posted.parcels } in
    let at : c.horizon_after-at.result ≡ next_horizon sink 0 = c.horizon_after-at.ensures ∙ ap (λ (n : ℕ). min sink.filled (sink.consumed + 0 + n)) h.guarded in
    let taken : AreTaken d.held c.cut.new.self (ramps_with_all d.held.ramp (next_horizon sink 0) messages d.held.ramps) = record {
      same_spec = c.cut.ensures.spec ∙ c.take_all.ensures.spec;
      same_ramp = c.cut.ensures.ramp ∙ c.take_all.ensures.ramp;
      same_depth = c.cut.ensures.depth ∙ c.take_all.ensures.depth;
      ramps_are = c.cut.ensures.ramps ∙ c.take_all.ensures.ramps ∙ ap (λ (n : ℕ). ramps_with_all d.held.ramp n messages d.held.ramps) at;
    } in
    let size : frame_size_of c.take_all.new.self.spec ≡ frame_size sink.spec = ap frame_size_of c.take_all.ensures.spec ∙ same_size sink.spec d.held.spec h.same_spec in
    let cut : c.cut.new.self.bytes ≡ take ((next_horizon sink 0 - sink.consumed) * frame_size sink.spec) d.held.bytes =
    c.cut.ensures.bytes ∙ (λ i. take ((at i - c.consumed.ensures i) * size i) (c.take_all.ensures.bytes i)) in
    held_stopped sink d.mixer.unaltered d.guard d.held h messages are c.stop.new.self.sink c.stop.ensures.value c.cut.new.self taken cut c.stop.new.self.unaltered c.stop.ensures.lane c.stop.ensures.mixed
