use Rattle.std.proofs.Common.{◌≡◌, ℕ, ◌+◌, ◌-◌, ◌*◌, ◌^◌, ◌≤◌, List, length, min, refl, ap, sym, ◌∙◌, subst, arith}
use Rattle.std.proofs.Math.Nat.{mul-le-mul_right}
use Rattle.px_sample.specs.declared.spec.Spec.{Spec}
use Rattle.px_sample.specs.Format.{frame_size_of}
use Rattle.px_model.specs.Frame.{frame_size}
use Rattle.px_model.specs.Sink.{Sink, Input}
use Rattle.px_model.specs.Turn.{AreFor, next_horizon, turn_notices}
use Rattle.px_stream.specs.Samples.{samples}
use Rattle.px_lane.specs.Inputs.{inputs_of}
use Rattle.px_lane.specs.Taking.{AreFed}
use Rattle.px_ramp.specs.Ramp.{ramps_with_all}
use Rattle.px_ramp.specs.RampMix.{ramp_turned}
use Rattle.px_ramp.specs.Lane.{RoomyRampSink, ramped_of}
use Rattle.px_ramp.proofs.Turned.{same_size, lane_fed, lane_few, ramped_lane}
use Rattle.px_ramp.proofs.Played.{same_channels, still_wide, bytes_played, sink_played, full_played, held_played}
use Rattle.px_ramp.proofs.Unramped.{plain_played}
use Rattle.px_ramp.proofs.sink.RampedSink.play.Goals as goal

pub horizon_after-at-requires : goal.horizon_after-at-requires
horizon_after-at-requires g c =
    let there : c.args.frames ≤ c.self.inside.mixer.sink.filled - c.self.inside.mixer.sink.consumed =
    subst (λ (s : RoomyRampSink). c.args.frames ≤ s.ramped.sink.filled - s.ramped.sink.consumed) (sym c.self.view_is) c.requires.there in
    let few : c.self.inside.mixer.sink.filled ≤ 2 ^ 60 = subst (λ (s : RoomyRampSink). s.ramped.sink.filled ≤ 2 ^ 60) (sym c.self.view_is) c.requires.countable in
    let keeps = c.self.invariant.lane.holds in
    omega (arith, there, few, keeps.consumed_first, keeps.horizon_first)

pub take_all-requires-clause-room : goal.take_all-requires-clause-room
take_all-requires-clause-room g c = subst (λ (s : RoomyRampSink). c.args.count ≤ s.ramp_room) (sym c.self.view_is) c.requires.ramp_room

pub take_all-requires-clause-wide : goal.take_all-requires-clause-wide
take_all-requires-clause-wide g c =
    let d = c.self.inside in
    let are = subst (λ (s : RoomyRampSink). AreFor s.ramped.sink c.args.messages.now.messages) (sym c.self.view_is) c.requires.messages in
    still_wide d.mixer.sink d.mixer.unaltered d.guard d.held c.self.invariant c.args.messages.now.messages (record { orderly = are.orderly; parcels = are.parcels }) c.horizon_after-at.result

pub play-requires-clause-lane : goal.play-requires-clause-lane
play-requires-clause-lane g c = c.self.invariant.lane

pub play-requires-clause-mixed : goal.play-requires-clause-mixed
play-requires-clause-mixed g c = c.self.invariant.all_mixed

pub play-requires-clause-there : goal.play-requires-clause-there
play-requires-clause-there g c = subst (λ (s : RoomyRampSink). c.args.frames ≤ s.ramped.sink.filled - s.ramped.sink.consumed) (sym c.self.view_is) c.requires.there

pub play-requires-clause-countable : goal.play-requires-clause-countable
play-requires-clause-countable g c = subst (λ (s : RoomyRampSink). s.ramped.sink.filled ≤ 2 ^ 60) (sym c.self.view_is) c.requires.countable

pub play-requires-clause-messages : goal.play-requires-clause-messages
play-requires-clause-messages g c =
    let are = subst (λ (s : RoomyRampSink). AreFor s.ramped.sink c.args.messages.now.messages) (sym c.self.view_is) c.requires.messages in
    record { orderly = are.orderly; parcels = are.parcels }

pub play-requires-clause-room : goal.play-requires-clause-room
play-requires-clause-room g c = subst (λ (s : RoomyRampSink). length c.args.messages.now.messages ≤ s.room) (sym c.self.view_is) c.requires.room

pub play-requires-clause-comes : goal.play-requires-clause-comes
play-requires-clause-comes g c = subst (λ (s : RoomyRampSink). s.room ≤ c.args.messages.now.room) (sym c.self.view_is) c.requires.comes

pub play-requires-clause-blocks_come : goal.play-requires-clause-blocks_come
play-requires-clause-blocks_come g c = subst (λ (s : RoomyRampSink). s.block_room ≤ c.args.messages.now.block_room) (sym c.self.view_is) c.requires.blocks_come

pub play-requires-clause-capacity : goal.play-requires-clause-capacity
play-requires-clause-capacity g c =
    subst (λ (s : RoomyRampSink). length c.args.out.now.notices + length (turn_notices samples s.ramped.sink c.args.frames c.args.messages.now.messages) ≤ c.args.out.now.capacity) (sym c.self.view_is) c.requires.capacity

pub remix-requires-clause-held : goal.remix-requires-clause-held
remix-requires-clause-held g c =
    let d = c.self.inside in
    let h = c.self.invariant in
    let sink = d.mixer.sink in
    let t = c.take_all.new.self in
    let there : c.args.frames ≤ sink.filled - sink.consumed = subst (λ (s : RoomyRampSink). c.args.frames ≤ s.ramped.sink.filled - s.ramped.sink.consumed) (sym c.self.view_is) c.requires.there in
    let few : c.args.frames + (c.horizon_after-at.result - (c.consumed.result + c.args.frames)) ≤ sink.filled - sink.consumed =
    omega (arith, there, c.horizon_after-at.ensures, c.consumed.ensures, h.lane.holds.consumed_first, h.lane.holds.horizon_first) in
    let size : frame_size_of t.spec ≡ frame_size sink.spec = ap frame_size_of c.take_all.ensures.spec ∙ same_size sink.spec d.held.spec h.same_spec in
    subst (λ (m : ℕ). (c.args.frames + (c.horizon_after-at.result - (c.consumed.result + c.args.frames))) * m ≤ length t.bytes) (sym size)
    (omega (arith, h.full, ap length c.take_all.ensures.bytes, mul-le-mul_right (frame_size sink.spec) few))

pub remix-requires-clause-few_gone : goal.remix-requires-clause-few_gone
remix-requires-clause-few_gone g c =
    let there : c.args.frames ≤ c.self.inside.mixer.sink.filled - c.self.inside.mixer.sink.consumed =
    subst (λ (s : RoomyRampSink). c.args.frames ≤ s.ramped.sink.filled - s.ramped.sink.consumed) (sym c.self.view_is) c.requires.there in
    let lane = c.self.invariant.lane in
    omega (arith, there, lane.low_depth, lane.holds.filled_bounded)

pub remix-requires-clause-low : goal.remix-requires-clause-low
remix-requires-clause-low g c =
    let h = c.self.invariant in
    omega (arith, c.horizon_after-at.ensures, c.consumed.ensures, h.same_depth, c.take_all.ensures.depth, h.lane.holds.filled_bounded)

pub remix-requires-clause-fed : goal.remix-requires-clause-fed
remix-requires-clause-fed g c =
    let d = c.self.inside in
    let after = c.play.new.self.sink in
    let same = ap (λ (s : Sink). s.spec.channels) c.play.ensures.value ∙ sym (same_channels d.mixer.sink.spec d.held.spec c.self.invariant.same_spec) ∙ sym (ap (λ (s : Spec). s.channels) c.take_all.ensures.spec) in
    subst (λ (n : ℕ). AreFed n (inputs_of c.inputs-inputs.result.now)) same (subst (λ (inputs : List Input). AreFed after.spec.channels inputs) (sym c.inputs-inputs.ensures) (lane_fed after c.play.ensures.lane))

pub remix-requires-clause-few : goal.remix-requires-clause-few
remix-requires-clause-few g c = omega (arith, ap length c.inputs-inputs.ensures, lane_few c.play.new.self.sink c.play.ensures.lane)

pub remix-requires-clause-countable : goal.remix-requires-clause-countable
remix-requires-clause-countable g c =
    let few : c.self.inside.mixer.sink.filled ≤ 2 ^ 60 = subst (λ (s : RoomyRampSink). s.ramped.sink.filled ≤ 2 ^ 60) (sym c.self.view_is) c.requires.countable in
    omega (arith, few, c.horizon_after-at.ensures)

pub fresh-plain-requires-clause-full : goal.fresh-plain-requires-clause-full
fresh-plain-requires-clause-full g c = ap (λ (s : Sink). s.filled) c.play.ensures.value ∙ sym (ap (λ (s : Sink). s.consumed + s.depth) c.play.ensures.value)

pub remix-requires-clause-plain : goal.remix-requires-clause-plain
remix-requires-clause-plain g c =
    let d = c.self.inside in
    let h = c.self.invariant in
    let sink = d.mixer.sink in
    let messages = c.args.messages.now.messages in
    let there : c.args.frames ≤ sink.filled - sink.consumed = subst (λ (s : RoomyRampSink). c.args.frames ≤ s.ramped.sink.filled - s.ramped.sink.consumed) (sym c.self.view_is) c.requires.there in
    let at : c.horizon_after-at.result ≡ next_horizon sink c.args.frames = c.horizon_after-at.ensures ∙ ap (λ (n : ℕ). min sink.filled (sink.consumed + c.args.frames + n)) h.guarded in
    let low : c.horizon_after-at.result - (c.consumed.result + c.args.frames) ≡ next_horizon sink c.args.frames - (sink.consumed + c.args.frames) = (λ i. at i - (c.consumed.ensures i + c.args.frames)) in
    plain_played sink d.mixer.unaltered d.guard d.held h messages c.args.frames there c.take_all.new.self.spec c.take_all.new.self.depth c.take_all.ensures.spec c.take_all.ensures.depth
    (c.horizon_after-at.result - (c.consumed.result + c.args.frames)) c.play.new.self.sink (inputs_of c.inputs-inputs.result.now) c.fresh-plain.result.now low
    c.play.ensures.value (c.inputs-inputs.ensures ∙ ap (λ (s : Sink). s.inputs) c.play.ensures.value) c.fresh-plain.ensures

pub returns-clause-ramped : goal.returns-clause-ramped
returns-clause-ramped g c =
    let d = c.self.inside in
    let h = c.self.invariant in
    let sink = d.mixer.sink in
    let messages = c.args.messages.now.messages in
    let there : c.args.frames ≤ sink.filled - sink.consumed = subst (λ (s : RoomyRampSink). c.args.frames ≤ s.ramped.sink.filled - s.ramped.sink.consumed) (sym c.self.view_is) c.requires.there in
    let posted = subst (λ (s : RoomyRampSink). AreFor s.ramped.sink messages) (sym c.self.view_is) c.requires.messages in
    let are : AreFor sink messages = record { orderly = posted.orderly; parcels = posted.parcels } in
    let at : c.horizon_after-at.result ≡ next_horizon sink c.args.frames = c.horizon_after-at.ensures ∙ ap (λ (n : ℕ). min sink.filled (sink.consumed + c.args.frames + n)) h.guarded in
    let low : c.horizon_after-at.result - (c.consumed.result + c.args.frames) ≡ next_horizon sink c.args.frames - (sink.consumed + c.args.frames) = (λ i. at i - (c.consumed.ensures i + c.args.frames)) in
    let ramps_are = c.take_all.ensures.ramps ∙ ap (λ (n : ℕ). ramps_with_all d.held.ramp n messages d.held.ramps) at in
    let made = bytes_played sink d.mixer.unaltered d.guard d.held h messages are c.args.frames there c.take_all.new.self
    (record { same_spec = c.take_all.ensures.spec; same_ramp = c.take_all.ensures.ramp; same_depth = c.take_all.ensures.depth; ramps_are = ramps_are })
    c.take_all.ensures.bytes (c.horizon_after-at.result - (c.consumed.result + c.args.frames)) c.horizon_after-at.result _ c.remix.new.self.bytes low at
    (c.inputs-inputs.ensures ∙ ap (λ (s : Sink). s.inputs) c.play.ensures.value) c.remix.ensures.bytes in
    (λ i. ramped_of (c.play.ensures.value i) ((c.remix.ensures.ramps ∙ ramps_are) i) c.remix.new.self.bytes)
    ∙ sink_played sink d.mixer.unaltered d.guard d.held h messages are c.args.frames there c.remix.new.self.bytes made
    ∙ ap (λ (s : RoomyRampSink). ramp_turned samples s.ramp s.ramped c.args.frames messages) c.self.view_is

pub returns-clause-ramp : goal.returns-clause-ramp
returns-clause-ramp g c = c.remix.ensures.ramp ∙ c.take_all.ensures.ramp ∙ ap (λ (s : RoomyRampSink). s.ramp) c.self.view_is

pub returns-clause-lane : goal.returns-clause-lane
returns-clause-lane g c =
    let d = c.self.inside in
    let h = c.self.invariant in
    let sink = d.mixer.sink in
    let messages = c.args.messages.now.messages in
    let there : c.args.frames ≤ sink.filled - sink.consumed = subst (λ (s : RoomyRampSink). c.args.frames ≤ s.ramped.sink.filled - s.ramped.sink.consumed) (sym c.self.view_is) c.requires.there in
    let posted = subst (λ (s : RoomyRampSink). AreFor s.ramped.sink messages) (sym c.self.view_is) c.requires.messages in
    let are : AreFor sink messages = record { orderly = posted.orderly; parcels = posted.parcels } in
    let at : c.horizon_after-at.result ≡ next_horizon sink c.args.frames = c.horizon_after-at.ensures ∙ ap (λ (n : ℕ). min sink.filled (sink.consumed + c.args.frames + n)) h.guarded in
    let low : c.horizon_after-at.result - (c.consumed.result + c.args.frames) ≡ next_horizon sink c.args.frames - (sink.consumed + c.args.frames) = (λ i. at i - (c.consumed.ensures i + c.args.frames)) in
    let ramps_are = c.take_all.ensures.ramps ∙ ap (λ (n : ℕ). ramps_with_all d.held.ramp n messages d.held.ramps) at in
    let made = bytes_played sink d.mixer.unaltered d.guard d.held h messages are c.args.frames there c.take_all.new.self
    (record { same_spec = c.take_all.ensures.spec; same_ramp = c.take_all.ensures.ramp; same_depth = c.take_all.ensures.depth; ramps_are = ramps_are })
    c.take_all.ensures.bytes (c.horizon_after-at.result - (c.consumed.result + c.args.frames)) c.horizon_after-at.result _ c.remix.new.self.bytes low at
    (c.inputs-inputs.ensures ∙ ap (λ (s : Sink). s.inputs) c.play.ensures.value) c.remix.ensures.bytes in
    ramped_lane c.play.new.self.sink c.remix.new.self.ramps c.remix.new.self.bytes c.play.ensures.lane
    (full_played sink d.mixer.unaltered d.guard d.held h messages are c.args.frames there c.remix.new.self.bytes made ∙ sym (ap (λ (s : Sink). (s.filled - s.consumed) * frame_size s.spec) c.play.ensures.value))

pub invariant_of-self : goal.invariant_of-self
invariant_of-self g c =
    let d = c.self.inside in
    let h = c.self.invariant in
    let sink = d.mixer.sink in
    let messages = c.args.messages.now.messages in
    let there : c.args.frames ≤ sink.filled - sink.consumed = subst (λ (s : RoomyRampSink). c.args.frames ≤ s.ramped.sink.filled - s.ramped.sink.consumed) (sym c.self.view_is) c.requires.there in
    let posted = subst (λ (s : RoomyRampSink). AreFor s.ramped.sink messages) (sym c.self.view_is) c.requires.messages in
    let are : AreFor sink messages = record { orderly = posted.orderly; parcels = posted.parcels } in
    let at : c.horizon_after-at.result ≡ next_horizon sink c.args.frames = c.horizon_after-at.ensures ∙ ap (λ (n : ℕ). min sink.filled (sink.consumed + c.args.frames + n)) h.guarded in
    let low : c.horizon_after-at.result - (c.consumed.result + c.args.frames) ≡ next_horizon sink c.args.frames - (sink.consumed + c.args.frames) = (λ i. at i - (c.consumed.ensures i + c.args.frames)) in
    let ramps_are = c.take_all.ensures.ramps ∙ ap (λ (n : ℕ). ramps_with_all d.held.ramp n messages d.held.ramps) at in
    let made = bytes_played sink d.mixer.unaltered d.guard d.held h messages are c.args.frames there c.take_all.new.self
    (record { same_spec = c.take_all.ensures.spec; same_ramp = c.take_all.ensures.ramp; same_depth = c.take_all.ensures.depth; ramps_are = ramps_are })
    c.take_all.ensures.bytes (c.horizon_after-at.result - (c.consumed.result + c.args.frames)) c.horizon_after-at.result _ c.remix.new.self.bytes low at
    (c.inputs-inputs.ensures ∙ ap (λ (s : Sink). s.inputs) c.play.ensures.value) c.remix.ensures.bytes in
    held_played sink d.mixer.unaltered d.guard d.held h messages are c.args.frames there c.remix.new.self.bytes made
    c.play.new.self.sink c.play.new.self.unaltered c.remix.new.self c.play.ensures.value c.play.ensures.lane c.play.ensures.mixed
    (record {
      same_spec = c.remix.ensures.spec ∙ c.take_all.ensures.spec;
      same_ramp = c.remix.ensures.ramp ∙ c.take_all.ensures.ramp;
      same_depth = c.remix.ensures.depth ∙ c.take_all.ensures.depth;
      ramps_are = c.remix.ensures.ramps ∙ ramps_are;
    })
    refl
