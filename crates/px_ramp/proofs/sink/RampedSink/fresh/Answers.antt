use Rattle.std.proofs.Common.{◌≡◌, ℕ, ◌+◌, ◌-◌, ◌*◌, ◌≤◌, length, drop, ap, sym, ◌∙◌, subst, arith}
use Rattle.std.proofs.Math.Nat.{mul-le-mul_right}
use Rattle.std.specs.List.{concat}
use Rattle.px_model.specs.Frame.{frame_size, frames_of}
use Rattle.px_lane.proofs.Buffers.{bytes_behind}
use Rattle.px_ramp.specs.Lane.{RoomyRampSink}
use Rattle.px_ramp.proofs.Turned.{same_size}
use Rattle.px_ramp.proofs.sink.RampedSink.fresh.Goals as goal

pub from-requires : goal.from-requires
from-requires c =
    let d = c.self.inside in
    let h = c.self.invariant in
    let few : c.horizon.result - c.consumed.result ≤ d.mixer.sink.filled - d.mixer.sink.consumed = omega (arith, c.horizon.ensures, c.consumed.ensures, h.lane.holds.consumed_first, h.lane.holds.horizon_first) in
    subst (λ (m : ℕ). (c.horizon.result - c.consumed.result) * m ≤ length d.held.bytes) (sym (same_size d.mixer.sink.spec d.held.spec h.same_spec))
    (omega (arith, h.full, mul-le-mul_right (frame_size d.mixer.sink.spec) few))

pub returns : goal.returns
returns c =
    let d = c.self.inside in
    let h = c.self.invariant in
    let sink = d.mixer.sink in
    let below : ℕ = sink.horizon - sink.consumed in
    let rest : ℕ = sink.filled - sink.horizon in
    let all : below + rest ≡ sink.filled - sink.consumed = omega (arith, h.lane.holds.consumed_first, h.lane.holds.horizon_first) in
    let long : length d.held.bytes ≡ (below + rest) * frame_size sink.spec = h.full ∙ sym (ap (λ (n : ℕ). n * frame_size sink.spec) all) in
    c.from.ensures
    ∙ (λ i. drop ((c.horizon.ensures i - c.consumed.ensures i) * same_size sink.spec d.held.spec h.same_spec i) d.held.bytes)
    ∙ sym (bytes_behind (frame_size sink.spec) (sink.horizon - sink.consumed) (sink.filled - sink.horizon) d.held.bytes long)
    ∙ ap (λ (n : ℕ). concat (drop (sink.horizon - sink.consumed) (frames_of (frame_size sink.spec) n d.held.bytes))) all
    ∙ ap (λ (s : RoomyRampSink). concat (drop (s.ramped.sink.horizon - s.ramped.sink.consumed) s.ramped.sink.buffer)) c.self.view_is
