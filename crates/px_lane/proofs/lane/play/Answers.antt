use Rattle.std.proofs.Common.{◌≡◌, ℕ, ◌+◌, ◌-◌, ◌≤◌, ◌++◌, List, length, take, drop, ap, sym, ◌∙◌, subst, arith}
use Rattle.std.specs.List.{concat}
use Rattle.px_ends.specs.Device.{DeviceState, IsPut, put_at}
use Rattle.px_model.specs.Sink.{Sink}
use Rattle.px_model.specs.Turn.{turned, turn_notices, next_horizon}
use Rattle.px_stream.specs.Samples.{samples}
use Rattle.px_lane.specs.Lane.{IsLane, IsAttached}
use Rattle.px_lane.specs.Costs.{turn_cost}
use Rattle.px_lane.specs.declared.lane.Turned.TheVariants.{Played}
use Rattle.px_lane.proofs.Attached.{put_there, turn_room}
use Rattle.px_lane.proofs.lane.play.Goals as goal

pub play-stay-requires-clause-capacity : goal.play-stay-requires-clause-capacity
play-stay-requires-clause-capacity g c =
    turn_room c.args.mixer.now.sink (c.args.consumed - c.consumed.result) (length c.args.out.now.notices) c.args.out.now.capacity c.args.messages.now.messages c.requires.lane.holds c.requires.capacity

pub fresh-requires-clause-within : goal.fresh-requires-clause-within
fresh-requires-clause-within g c =
    let sink = c.args.mixer.now.sink in
    let n = c.args.consumed - sink.consumed in
    let messages = c.args.messages.now.messages in
    let state : c.play-stay.new.self.sink ≡ turned samples sink n messages = c.play-stay.ensures.value ∙ ap (λ (from : ℕ). turned samples sink (c.args.consumed - from) messages) c.consumed.ensures in
    let within : c.play-stay.result ≤ sink.filled - next_horizon sink n = subst (λ (from : ℕ). c.play-stay.result ≤ sink.filled - next_horizon sink (c.args.consumed - from)) c.consumed.ensures c.play-stay.ensures.within in
    subst (λ (s : Sink). c.play-stay.result ≤ s.filled - s.horizon) (sym state)
    (omega (arith, within, c.requires.within, c.requires.forward, c.requires.lane.holds.filled_bounded))

pub put-requires : goal.put-requires
put-requires g c =
    let sink = c.args.mixer.now.sink in
    let n = c.args.consumed - sink.consumed in
    let messages = c.args.messages.now.messages in
    let d = g.D.Device.now c.args.device.now in
    let state : c.play-stay.new.self.sink ≡ turned samples sink n messages = c.play-stay.ensures.value ∙ ap (λ (from : ℕ). turned samples sink (c.args.consumed - from) messages) c.consumed.ensures in
    let stay = c.play-stay.result in
    let at : c.horizon.result + stay ≡ next_horizon sink n + stay = ap (λ (h : ℕ). h + stay) (c.horizon.ensures ∙ ap (λ (s : Sink). s.horizon) state) in
    let bytes : c.fresh.result.now ≡ concat (drop ((next_horizon sink n - (sink.consumed + n)) + stay) (turned samples sink n messages).buffer) =
    c.fresh.ensures ∙ ap (λ (s : Sink). concat (drop ((s.horizon - s.consumed) + stay) s.buffer)) state in
    let within : stay ≤ sink.filled - next_horizon sink n = subst (λ (from : ℕ). stay ≤ sink.filled - next_horizon sink (c.args.consumed - from)) c.consumed.ensures c.play-stay.ensures.within in
    let there : n ≤ sink.filled - sink.consumed = omega (arith, c.requires.within, c.requires.forward) in
    let same = subst (λ (s : Sink). take ((next_horizon sink n - (sink.consumed + n)) + stay) s.buffer ≡ take ((next_horizon sink n - (sink.consumed + n)) + stay) (drop n sink.buffer)) state
    (subst (λ (from : ℕ). take ((next_horizon sink (c.args.consumed - from) - (sink.consumed + (c.args.consumed - from))) + stay) (Sink.buffer c.play-stay.new.self.sink) ≡ take ((next_horizon sink (c.args.consumed - from) - (sink.consumed + (c.args.consumed - from))) + stay) (drop (c.args.consumed - from) sink.buffer)) c.consumed.ensures c.play-stay.ensures.stay) in
    subst (λ (h : ℕ). IsPut d h c.fresh.result.now) (sym at)
    (subst (λ (b : List ℕ). IsPut d (next_horizon sink n + stay) b) (sym bytes)
    (put_there samples d sink n stay messages c.requires.lane (subst IsLane state c.play-stay.ensures.lane) there within c.requires.countable same c.requires.attached).0)

pub returns-clause-attached : goal.returns-clause-attached
returns-clause-attached g c =
    let sink = c.args.mixer.now.sink in
    let n = c.args.consumed - sink.consumed in
    let messages = c.args.messages.now.messages in
    let d = g.D.Device.now c.args.device.now in
    let state : c.play-stay.new.self.sink ≡ turned samples sink n messages = c.play-stay.ensures.value ∙ ap (λ (from : ℕ). turned samples sink (c.args.consumed - from) messages) c.consumed.ensures in
    let stay = c.play-stay.result in
    let at : c.horizon.result + stay ≡ next_horizon sink n + stay = ap (λ (h : ℕ). h + stay) (c.horizon.ensures ∙ ap (λ (s : Sink). s.horizon) state) in
    let bytes : c.fresh.result.now ≡ concat (drop ((next_horizon sink n - (sink.consumed + n)) + stay) (turned samples sink n messages).buffer) =
    c.fresh.ensures ∙ ap (λ (s : Sink). concat (drop ((s.horizon - s.consumed) + stay) s.buffer)) state in
    let within : stay ≤ sink.filled - next_horizon sink n = subst (λ (from : ℕ). stay ≤ sink.filled - next_horizon sink (c.args.consumed - from)) c.consumed.ensures c.play-stay.ensures.within in
    let there : n ≤ sink.filled - sink.consumed = omega (arith, c.requires.within, c.requires.forward) in
    let same = subst (λ (s : Sink). take ((next_horizon sink n - (sink.consumed + n)) + stay) s.buffer ≡ take ((next_horizon sink n - (sink.consumed + n)) + stay) (drop n sink.buffer)) state
    (subst (λ (from : ℕ). take ((next_horizon sink (c.args.consumed - from) - (sink.consumed + (c.args.consumed - from))) + stay) (Sink.buffer c.play-stay.new.self.sink) ≡ take ((next_horizon sink (c.args.consumed - from) - (sink.consumed + (c.args.consumed - from))) + stay) (drop (c.args.consumed - from) sink.buffer)) c.consumed.ensures c.play-stay.ensures.stay) in
    let put : g.D.Device.now c.put.new.self ≡ put_at (next_horizon sink n + stay) (concat (drop ((next_horizon sink n - (sink.consumed + n)) + stay) (turned samples sink n messages).buffer)) d =
    c.put.ensures.state ∙ ap (λ (h : ℕ). put_at h c.fresh.result.now d) at ∙ ap (λ (b : List ℕ). put_at (next_horizon sink n + stay) b d) bytes in
    subst (λ (s : Sink). IsAttached (g.D.Device.now c.put.new.self) s) (sym state)
    (subst (λ (e : DeviceState). IsAttached e (turned samples sink n messages)) (sym put)
    (put_there samples d sink n stay messages c.requires.lane (subst IsLane state c.play-stay.ensures.lane) there within c.requires.countable same c.requires.attached).1)

pub play-stay-requires-clause-there : goal.play-stay-requires-clause-there
play-stay-requires-clause-there g c = omega (arith, c.consumed.ensures, c.requires.forward, c.requires.within)

pub returns-clause-value : goal.returns-clause-value
returns-clause-value g c = c.play-stay.ensures.value ∙ ap (λ (from : ℕ). turned samples c.args.mixer.now.sink (c.args.consumed - from) c.args.messages.now.messages) c.consumed.ensures

pub returns-clause-result : goal.returns-clause-result
returns-clause-result g c = ap (λ (from : ℕ). Played c.args.consumed (c.args.consumed - from)) c.consumed.ensures

pub returns-clause-lane : goal.returns-clause-lane
returns-clause-lane g c = c.play-stay.ensures.lane

pub returns-clause-mixed : goal.returns-clause-mixed
returns-clause-mixed g c = c.play-stay.ensures.mixed

pub returns-clause-ticks : goal.returns-clause-ticks
returns-clause-ticks g c = subst (λ (from : ℕ). c.play-stay.new.steps ≤ c.args.steps.now + turn_cost c.args.mixer.now.sink (c.args.consumed - from) c.args.messages.now.messages) c.consumed.ensures c.play-stay.ensures.ticks

pub returns-clause-notices : goal.returns-clause-notices
returns-clause-notices g c = c.play-stay.ensures.notices ∙ ap (λ (from : ℕ). c.args.out.now.notices ++ turn_notices samples c.args.mixer.now.sink (c.args.consumed - from) c.args.messages.now.messages) c.consumed.ensures

pub returns-clause-played : goal.returns-clause-played
returns-clause-played g c = ap (λ (d : DeviceState). d.played) c.put.ensures.state

pub returns-clause-faults : goal.returns-clause-faults
returns-clause-faults g c = ap (λ (d : DeviceState). d.faults) c.put.ensures.state

pub returns-clause-failed : goal.returns-clause-failed
returns-clause-failed g c = ap (λ (d : DeviceState). d.failed) c.put.ensures.state

pub returns-clause-next : goal.returns-clause-next
returns-clause-next g c = ap (λ (d : DeviceState). d.next) c.put.ensures.state
