use Rattle.std.proofs.Common.{◌≡◌, ℕ, ◌+◌, ◌-◌, ◌≤◌, ◌++◌, List, length, drop, ap, sym, ◌∙◌, subst, arith}
use Rattle.std.specs.List.{concat}
use Rattle.px_ends.specs.Device.{DeviceState, IsPut, put_at}
use Rattle.px_model.specs.Turn.{turn_notices, next_horizon}
use Rattle.px_stream.specs.Samples.{samples}
use Rattle.px_lane.specs.Lane.{IsLane, IsAttached}
use Rattle.px_lane.specs.declared.lane.Turned.TheVariants.{Played}
use Rattle.px_lane.proofs.Attached.{turn_room}
use Rattle.px_ramp.specs.RampMix.{RampSink, ramp_turned}
use Rattle.px_ramp.proofs.Put.{put_there}
use Rattle.px_ramp.proofs.lane.play.Goals as goal

pub play-requires-clause-capacity : goal.play-requires-clause-capacity
play-requires-clause-capacity g c =
    turn_room c.args.mixer.now.ramped.sink (c.args.consumed - c.consumed.result) (length c.args.out.now.notices) c.args.out.now.capacity c.args.messages.now.messages c.requires.lane.holds c.requires.capacity

pub play-requires-clause-there : goal.play-requires-clause-there
play-requires-clause-there g c = omega (arith, c.consumed.ensures, c.requires.forward, c.requires.within)

pub put-requires : goal.put-requires
put-requires g c =
    let rs = c.args.mixer.now.ramped in
    let r = c.args.mixer.now.ramp in
    let n = c.args.consumed - rs.sink.consumed in
    let messages = c.args.messages.now.messages in
    let d = g.D.Device.now c.args.device.now in
    let there : n ≤ rs.sink.filled - rs.sink.consumed = omega (arith, c.requires.within, c.requires.forward) in
    let state : c.play.new.self.ramped ≡ ramp_turned samples r rs n messages = c.play.ensures.ramped ∙ ap (λ (from : ℕ). ramp_turned samples r rs (c.args.consumed - from) messages) c.consumed.ensures in
    let at : c.horizon.result ≡ next_horizon rs.sink n = c.horizon.ensures ∙ ap (λ (s : RampSink). s.sink.horizon) state in
    let bytes : c.fresh.result.now ≡ concat (drop (next_horizon rs.sink n - (rs.sink.consumed + n)) (ramp_turned samples r rs n messages).sink.buffer) =
    c.fresh.ensures ∙ ap (λ (s : RampSink). concat (drop (s.sink.horizon - s.sink.consumed) s.sink.buffer)) state in
    subst (λ (h : ℕ). IsPut (g.D.Device.now c.args.device.now) h c.fresh.result.now) (sym at)
    (subst (λ (b : List ℕ). IsPut (g.D.Device.now c.args.device.now) (next_horizon rs.sink n) b) (sym bytes)
    (put_there d rs r n messages c.requires.lane (subst (λ (s : RampSink). IsLane s.sink) state c.play.ensures.lane) there c.requires.countable c.requires.attached).0)

pub returns-clause-attached : goal.returns-clause-attached
returns-clause-attached g c =
    let rs = c.args.mixer.now.ramped in
    let r = c.args.mixer.now.ramp in
    let n = c.args.consumed - rs.sink.consumed in
    let messages = c.args.messages.now.messages in
    let d = g.D.Device.now c.args.device.now in
    let there : n ≤ rs.sink.filled - rs.sink.consumed = omega (arith, c.requires.within, c.requires.forward) in
    let state : c.play.new.self.ramped ≡ ramp_turned samples r rs n messages = c.play.ensures.ramped ∙ ap (λ (from : ℕ). ramp_turned samples r rs (c.args.consumed - from) messages) c.consumed.ensures in
    let at : c.horizon.result ≡ next_horizon rs.sink n = c.horizon.ensures ∙ ap (λ (s : RampSink). s.sink.horizon) state in
    let bytes : c.fresh.result.now ≡ concat (drop (next_horizon rs.sink n - (rs.sink.consumed + n)) (ramp_turned samples r rs n messages).sink.buffer) =
    c.fresh.ensures ∙ ap (λ (s : RampSink). concat (drop (s.sink.horizon - s.sink.consumed) s.sink.buffer)) state in
    let put : g.D.Device.now c.put.new.self ≡ put_at (next_horizon rs.sink n) (concat (drop (next_horizon rs.sink n - (rs.sink.consumed + n)) (ramp_turned samples r rs n messages).sink.buffer)) d =
    c.put.ensures.state ∙ ap (λ (h : ℕ). put_at h c.fresh.result.now d) at ∙ ap (λ (b : List ℕ). put_at (next_horizon rs.sink n) b d) bytes in
    subst (λ (s : RampSink). IsAttached (g.D.Device.now c.put.new.self) s.sink) (sym state)
    (subst (λ (e : DeviceState). IsAttached e (ramp_turned samples r rs n messages).sink) (sym put)
    (put_there d rs r n messages c.requires.lane (subst (λ (s : RampSink). IsLane s.sink) state c.play.ensures.lane) there c.requires.countable c.requires.attached).1)

pub returns-clause-ramped : goal.returns-clause-ramped
returns-clause-ramped g c =
    c.play.ensures.ramped ∙ ap (λ (from : ℕ). ramp_turned samples c.args.mixer.now.ramp c.args.mixer.now.ramped (c.args.consumed - from) c.args.messages.now.messages) c.consumed.ensures

pub returns-clause-ramp : goal.returns-clause-ramp
returns-clause-ramp g c = c.play.ensures.ramp

pub returns-clause-result : goal.returns-clause-result
returns-clause-result g c = ap (λ (from : ℕ). Played c.args.consumed (c.args.consumed - from)) c.consumed.ensures

pub returns-clause-lane : goal.returns-clause-lane
returns-clause-lane g c = c.play.ensures.lane

pub returns-clause-notices : goal.returns-clause-notices
returns-clause-notices g c =
    c.play.ensures.notices ∙ ap (λ (from : ℕ). c.args.out.now.notices ++ turn_notices samples c.args.mixer.now.ramped.sink (c.args.consumed - from) c.args.messages.now.messages) c.consumed.ensures

pub returns-clause-played : goal.returns-clause-played
returns-clause-played g c = ap (λ (d : DeviceState). d.played) c.put.ensures.state

pub returns-clause-faults : goal.returns-clause-faults
returns-clause-faults g c = ap (λ (d : DeviceState). d.faults) c.put.ensures.state

pub returns-clause-failed : goal.returns-clause-failed
returns-clause-failed g c = ap (λ (d : DeviceState). d.failed) c.put.ensures.state

pub returns-clause-next : goal.returns-clause-next
returns-clause-next g c = ap (λ (d : DeviceState). d.next) c.put.ensures.state
