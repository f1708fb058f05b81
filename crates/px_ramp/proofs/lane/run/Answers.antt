use Rattle.std.proofs.Common.{◌≡◌, ℕ, ◌-◌, ◌≤◌, Bool, length, refl, ap, sym, ◌∙◌, subst, arith, rules}
use Rattle.std.specs.Prelude.{IsFalse, Option}
use Rattle.px_ends.specs.Device.{DeviceState, Consumes, Next, is_failing}
use Rattle.px_lane.specs.declared.lane.Turned.{Turned}
use Rattle.px_lane.specs.Lane.{IsAttached, StopsOver}
use Rattle.px_lane.proofs.Attached.{stop_room, synced, synced_played}
use Rattle.px_ramp.specs.RampMix.{RampSink}
use Rattle.px_ramp.specs.Lane.{RampMixer, RampTurns, without_ramping}
use Rattle.px_ramp.proofs.lane.run.Goals as goal

pub stop-requires-clause-capacity : goal.stop-requires-clause-capacity
stop-requires-clause-capacity g c =
    stop_room c.args.mixer.now.ramped.sink (length c.args.out.now.notices) c.args.out.now.capacity c.args.messages.now.messages c.requires.lane.holds c.requires.capacity

pub stop-requires-in-Err-clause-capacity : goal.stop-requires-in-Err-clause-capacity
stop-requires-in-Err-clause-capacity g c =
    stop_room c.args.mixer.now.ramped.sink (length c.args.out.now.notices) c.args.out.now.capacity c.args.messages.now.messages c.requires.lane.holds c.requires.capacity

pub play-requires-clause-attached : goal.play-requires-clause-attached
play-requires-clause-attached g c =
    let sink = c.args.mixer.now.ramped.sink in
    let going : IsFalse sink.stopped = search (rules, sym c.is_stopped.ensures ∙ c.if-is_stopped.false) in
    synced (g.D.Device.now c.args.device.now) (g.D.Device.now c.sync.new.self) sink c.in-Ok.consumed c.requires.lane (c.requires.attached going) c.in-Ok.ensures.ok

pub returns-in-Ok-clause-turns : goal.returns-in-Ok-clause-turns
returns-in-Ok-clause-turns g c =
    let sink = c.args.mixer.now.ramped.sink in
    let d = g.D.Device.now c.args.device.now in
    let d' = g.D.Device.now c.sync.new.self in
    let going : IsFalse sink.stopped = search (rules, sym c.is_stopped.ensures ∙ c.if-is_stopped.false) in
    let at : IsAttached d sink = c.requires.attached going in
    let plays = c.in-Ok.ensures.ok in
    let there : c.in-Ok.consumed - sink.consumed ≤ sink.filled - sink.consumed = omega (arith, plays.within, at.filled) in
    let visible : Consumes d.next (sink.filled - sink.consumed) (c.in-Ok.consumed - sink.consumed) =
    subst (λ (filled : ℕ). Consumes d.next (filled - sink.consumed) (c.in-Ok.consumed - sink.consumed)) at.filled
    (subst (λ (from : ℕ). Consumes d.next (d.filled - from) (c.in-Ok.consumed - from)) at.consumed plays.visible) in
    let counted : c.in-Ok.consumed ≡ c.play.new.mixer.ramped.sink.consumed =
    omega (arith, ap (λ (s : RampSink). s.sink.consumed) c.play.ensures.ramped, plays.forward, at.consumed) in
    subst (λ (t : Turned). RampTurns g.D.Device.now (record { ramped = c.args.mixer.now.ramped; ramp = c.args.mixer.now.ramp; device = c.args.device.now; faults = c.args.faults.now })
    (record { ramped = c.play.new.mixer.ramped; ramp = c.play.new.mixer.ramp; device = c.play.new.device; faults = c.args.faults.now })
    c.args.messages.now.messages c.args.out.now.notices c.play.new.out.notices t) (sym c.play.ensures.result) (
      record {
        going = going;
        there = there;
        visible = visible;
        turned = c.play.ensures.ramped;
        same_ramp = c.play.ensures.ramp;
        counted = counted;
        attached = c.play.ensures.attached;
        device_going = subst (λ (b : Bool). IsFalse b) (sym (c.play.ensures.failed ∙ ap (λ (e : DeviceState). e.failed) plays.state)) plays.going;
        played = c.play.ensures.played ∙ synced_played d d' sink c.in-Ok.consumed c.requires.lane at plays;
        device_faults = c.play.ensures.faults ∙ ap (λ (e : DeviceState). e.faults) plays.state;
        steady = ap (λ (next : Option Next). is_failing next) c.play.ensures.next ∙ plays.steady;
        same_faults = refl;
      },
      c.play.ensures.notices,
    )

pub returns-in-Ok-clause-counted : goal.returns-in-Ok-clause-counted
returns-in-Ok-clause-counted g c = λ stops. c.requires.counted (sym (ap (λ (s : RampSink). s.sink.stopped) c.play.ensures.ramped) ∙ stops)

pub play-requires-clause-block_room : goal.play-requires-clause-block_room
play-requires-clause-block_room g c = c.requires.block_room

pub play-requires-clause-blocks_come : goal.play-requires-clause-blocks_come
play-requires-clause-blocks_come g c = c.requires.blocks_come

pub play-requires-clause-capacity : goal.play-requires-clause-capacity
play-requires-clause-capacity g c = c.requires.capacity

pub play-requires-clause-comes : goal.play-requires-clause-comes
play-requires-clause-comes g c = c.requires.comes

pub play-requires-clause-countable : goal.play-requires-clause-countable
play-requires-clause-countable g c = c.requires.countable

pub play-requires-clause-lane : goal.play-requires-clause-lane
play-requires-clause-lane g c = c.requires.lane

pub play-requires-clause-messages : goal.play-requires-clause-messages
play-requires-clause-messages g c = c.requires.messages

pub play-requires-clause-room : goal.play-requires-clause-room
play-requires-clause-room g c = c.requires.room

pub stop-requires-clause-block_room : goal.stop-requires-clause-block_room
stop-requires-clause-block_room g c = c.requires.block_room

pub stop-requires-clause-blocks_come : goal.stop-requires-clause-blocks_come
stop-requires-clause-blocks_come g c = c.requires.blocks_come

pub stop-requires-clause-comes : goal.stop-requires-clause-comes
stop-requires-clause-comes g c = c.requires.comes

pub stop-requires-clause-messages : goal.stop-requires-clause-messages
stop-requires-clause-messages g c = c.requires.messages

pub stop-requires-clause-room : goal.stop-requires-clause-room
stop-requires-clause-room g c = c.requires.room

pub stop-requires-in-Err-clause-block_room : goal.stop-requires-in-Err-clause-block_room
stop-requires-in-Err-clause-block_room g c = c.requires.block_room

pub stop-requires-in-Err-clause-blocks_come : goal.stop-requires-in-Err-clause-blocks_come
stop-requires-in-Err-clause-blocks_come g c = c.requires.blocks_come

pub stop-requires-in-Err-clause-comes : goal.stop-requires-in-Err-clause-comes
stop-requires-in-Err-clause-comes g c = c.requires.comes

pub stop-requires-in-Err-clause-messages : goal.stop-requires-in-Err-clause-messages
stop-requires-in-Err-clause-messages g c = c.requires.messages

pub stop-requires-in-Err-clause-room : goal.stop-requires-in-Err-clause-room
stop-requires-in-Err-clause-room g c = c.requires.room

pub returns-in-Ok-clause-capacity : goal.returns-in-Ok-clause-capacity
returns-in-Ok-clause-capacity g c = c.play.ensures.capacity

pub returns-in-Err-clause-capacity : goal.returns-in-Err-clause-capacity
returns-in-Err-clause-capacity g c = c.stop-in-Err.ensures.capacity

pub returns-then-is_stopped-clause-capacity : goal.returns-then-is_stopped-clause-capacity
returns-then-is_stopped-clause-capacity g c = c.stop.ensures.capacity

pub returns-in-Ok-clause-lane : goal.returns-in-Ok-clause-lane
returns-in-Ok-clause-lane g c = c.play.ensures.lane

pub returns-in-Err-clause-lane : goal.returns-in-Err-clause-lane
returns-in-Err-clause-lane g c = c.stop-in-Err.ensures.lane

pub returns-then-is_stopped-clause-lane : goal.returns-then-is_stopped-clause-lane
returns-then-is_stopped-clause-lane g c = c.stop.ensures.lane

pub returns-in-Ok-clause-list : goal.returns-in-Ok-clause-list
returns-in-Ok-clause-list g c = c.play.ensures.list

pub returns-in-Err-clause-list : goal.returns-in-Err-clause-list
returns-in-Err-clause-list g c = c.stop-in-Err.ensures.list

pub returns-then-is_stopped-clause-list : goal.returns-then-is_stopped-clause-list
returns-then-is_stopped-clause-list g c = c.stop.ensures.list

pub returns-in-Ok-clause-messages : goal.returns-in-Ok-clause-messages
returns-in-Ok-clause-messages g c = c.play.ensures.messages

pub returns-in-Err-clause-messages : goal.returns-in-Err-clause-messages
returns-in-Err-clause-messages g c = c.stop-in-Err.ensures.messages

pub returns-then-is_stopped-clause-messages : goal.returns-then-is_stopped-clause-messages
returns-then-is_stopped-clause-messages g c = c.stop.ensures.messages

pub returns-then-is_stopped-clause-counted : goal.returns-then-is_stopped-clause-counted
returns-then-is_stopped-clause-counted g c = λ _. c.requires.counted (sym c.is_stopped.ensures ∙ c.if-is_stopped.true)

pub returns-then-is_stopped-clause-turns : goal.returns-then-is_stopped-clause-turns
returns-then-is_stopped-clause-turns g c =
    let stopped = sym c.is_stopped.ensures ∙ c.if-is_stopped.true in
    let before : RampMixer g.row.D.Denot = record { ramped = c.args.mixer.now.ramped; ramp = c.args.mixer.now.ramp; device = c.args.device.now; faults = c.args.faults.now } in
    let after : RampMixer g.row.D.Denot = record { ramped = c.stop.new.self.ramped; ramp = c.stop.new.self.ramp; device = c.args.device.now; faults = c.args.faults.now } in (
      record {
        stopped = c.stop.ensures.ramped;
        same_ramp = c.stop.ensures.ramp;
        device = subst (λ (b : Bool). StopsOver b g.D.Device.now (without_ramping before) (without_ramping after)) (sym stopped) (refl, refl);
        counted = refl;
        cause = c.requires.counted stopped;
      },
      c.stop.ensures.notices,
    )

pub play-requires-clause-forward : goal.play-requires-clause-forward
play-requires-clause-forward g c =
    let going = sym c.is_stopped.ensures ∙ c.if-is_stopped.false in
    let at : IsAttached (g.D.Device.now c.args.device.now) c.args.mixer.now.ramped.sink = c.requires.attached going in
    subst (λ (n : ℕ). n ≤ c.in-Ok.consumed) at.consumed c.in-Ok.ensures.ok.forward

pub play-requires-clause-within : goal.play-requires-clause-within
play-requires-clause-within g c =
    let going = sym c.is_stopped.ensures ∙ c.if-is_stopped.false in
    let at : IsAttached (g.D.Device.now c.args.device.now) c.args.mixer.now.ramped.sink = c.requires.attached going in
    subst (λ (n : ℕ). c.in-Ok.consumed ≤ n) at.filled c.in-Ok.ensures.ok.within

pub returns-in-Err-clause-counted : goal.returns-in-Err-clause-counted
returns-in-Err-clause-counted g c = λ _. omega (arith, c.saturating_add.ensures)

pub returns-in-Err-clause-turns : goal.returns-in-Err-clause-turns
returns-in-Err-clause-turns g c =
    let going = sym c.is_stopped.ensures ∙ c.if-is_stopped.false in
    let before : RampMixer g.row.D.Denot = record { ramped = c.args.mixer.now.ramped; ramp = c.args.mixer.now.ramp; device = c.args.device.now; faults = c.args.faults.now } in
    let after : RampMixer g.row.D.Denot = record { ramped = c.stop-in-Err.new.self.ramped; ramp = c.stop-in-Err.new.self.ramp; device = c.sync.new.self; faults = c.saturating_add.result } in (
      record {
        stopped = c.stop-in-Err.ensures.ramped;
        same_ramp = c.stop-in-Err.ensures.ramp;
        device = subst (λ (b : Bool). StopsOver b g.D.Device.now (without_ramping before) (without_ramping after)) (sym going) (c.in-Err.ensures.err, c.saturating_add.ensures);
        counted = refl;
        cause = omega (arith, c.saturating_add.ensures);
      },
      c.stop-in-Err.ensures.notices,
    )

pub play-requires-clause-count : goal.play-requires-clause-count
play-requires-clause-count g c = c.requires.count

pub play-requires-clause-ramp_room : goal.play-requires-clause-ramp_room
play-requires-clause-ramp_room g c = c.requires.ramp_room

pub stop-requires-clause-count : goal.stop-requires-clause-count
stop-requires-clause-count g c = c.requires.count

pub stop-requires-clause-ramp_room : goal.stop-requires-clause-ramp_room
stop-requires-clause-ramp_room g c = c.requires.ramp_room

pub stop-requires-in-Err-clause-count : goal.stop-requires-in-Err-clause-count
stop-requires-in-Err-clause-count g c = c.requires.count

pub stop-requires-in-Err-clause-ramp_room : goal.stop-requires-in-Err-clause-ramp_room
stop-requires-in-Err-clause-ramp_room g c = c.requires.ramp_room

pub stop-requires-clause-countable : goal.stop-requires-clause-countable
stop-requires-clause-countable g c = c.requires.countable

pub stop-requires-in-Err-clause-countable : goal.stop-requires-in-Err-clause-countable
stop-requires-in-Err-clause-countable g c = c.requires.countable
