use Rattle.std.proofs.Common.{ℕ, ◌+◌, ◌^◌, ◌≤◌, List, length, refl, ap, sym, ◌∙◌, subst, arith}
use Rattle.std.specs.Prelude.{IsFalse}
use Rattle.std.specs.List.{sum_by}
use Rattle.px_model.specs.Stream.{Stream}
use Rattle.px_model.specs.Message.{Message}
use Rattle.px_model.specs.Notice.{Notice}
use Rattle.px_model.specs.Sink.{specs_of}
use Rattle.px_lane.specs.Lane.{IsLane, IsAttached, HasCounted}
use Rattle.px_lane.specs.Needed.{needed, blocks_of}
use Rattle.px_lane.proofs.Orders.{orderly_opens}
use Rattle.px_ramp.specs.RampMix.{RampSink}
use Rattle.px_ramp.specs.Lane.{RampMixer, RampTurns}
use Rattle.px_ramp.proofs.lane.RampLane.turn.Goals as goal

pub prepare-requires : goal.prepare-requires
prepare-requires g c =
    let sink = c.args.self.now.ramped.sink in
    orderly_opens sink.spec (specs_of sink.inputs) c.args.messages.now.messages c.requires.messages

pub give_back-requires-clause-empty : goal.give_back-requires-clause-empty
give_back-requires-clause-empty g c = c.in-Ok.ensures.empty

pub give_back-requires-clause-taken : goal.give_back-requires-clause-taken
give_back-requires-clause-taken g c = c.run-turned.ensures.messages

pub returns-in-Err-clause-empty : goal.returns-in-Err-clause-empty
returns-in-Err-clause-empty g c = tt

pub returns-in-Err-clause-ok : goal.returns-in-Err-clause-ok
returns-in-Err-clause-ok g c = tt

pub returns-then-filled-gt-MAX_INDEX-clause-empty : goal.returns-then-filled-gt-MAX_INDEX-clause-empty
returns-then-filled-gt-MAX_INDEX-clause-empty g c = tt

pub returns-then-filled-gt-MAX_INDEX-clause-ok : goal.returns-then-filled-gt-MAX_INDEX-clause-ok
returns-then-filled-gt-MAX_INDEX-clause-ok g c = tt

pub returns-in-Ok-clause-err : goal.returns-in-Ok-clause-err
returns-in-Ok-clause-err g c = tt

pub returns-in-Err-clause-notice_room : goal.returns-in-Err-clause-notice_room
returns-in-Err-clause-notice_room g c = c.prepare.ensures.more

pub returns-in-Ok-clause-empty : goal.returns-in-Ok-clause-empty
returns-in-Ok-clause-empty g c = c.give_back.ensures.messages

pub returns-in-Ok-clause-message_room : goal.returns-in-Ok-clause-message_room
returns-in-Ok-clause-message_room g c = c.give_back.ensures.capacity ∙ c.run-turned.ensures.list ∙ c.in-Ok.ensures.list

pub returns-in-Ok-clause-notice_room : goal.returns-in-Ok-clause-notice_room
returns-in-Ok-clause-notice_room g c = subst (λ (n : ℕ). c.args.out.now.capacity ≤ n) (sym c.run-turned.ensures.capacity) c.prepare.ensures.more

pub returns-then-filled-gt-MAX_INDEX-clause-err : goal.returns-then-filled-gt-MAX_INDEX-clause-err
returns-then-filled-gt-MAX_INDEX-clause-err g c = (refl, refl, refl)

pub returns-then-filled-gt-MAX_INDEX-clause-message_room : goal.returns-then-filled-gt-MAX_INDEX-clause-message_room
returns-then-filled-gt-MAX_INDEX-clause-message_room g c = refl

pub run-turned-requires-clause-lane : goal.run-turned-requires-clause-lane
run-turned-requires-clause-lane g c = subst (λ (s : RampSink). IsLane s.sink) (sym c.prepare.ensures.ramped) c.self.invariant.0

pub run-turned-requires-clause-counted : goal.run-turned-requires-clause-counted
run-turned-requires-clause-counted g c = subst (λ (s : RampSink). HasCounted s.sink c.self.inside.faults) (sym c.prepare.ensures.ramped) c.self.invariant.1

pub run-turned-requires-clause-attached : goal.run-turned-requires-clause-attached
run-turned-requires-clause-attached g c =
    subst (λ (s : RampSink). IsFalse s.sink.stopped → IsAttached (g.D.Device.now c.self.inside.device) s.sink) (sym c.prepare.ensures.ramped)
    (subst (λ (l : RampMixer g.row.D.Denot). IsFalse l.ramped.sink.stopped → IsAttached (g.D.Device.now l.device) l.ramped.sink) (sym c.self.view_is) c.requires.attached)

pub run-turned-requires-clause-countable : goal.run-turned-requires-clause-countable
run-turned-requires-clause-countable g c = subst (λ (s : RampSink). s.sink.filled ≤ 2 ^ 60) (sym c.prepare.ensures.ramped) (subst (λ (n : ℕ). n ≤ 2 ^ 60) c.filled-filled.ensures c.if-filled-gt-MAX_INDEX.false)

pub run-turned-requires-clause-room : goal.run-turned-requires-clause-room
run-turned-requires-clause-room g c = omega (arith, ap length c.in-Ok.ensures.messages, c.in-Ok.ensures.room.0)

pub run-turned-requires-clause-comes : goal.run-turned-requires-clause-comes
run-turned-requires-clause-comes g c = omega (arith, c.in-Ok.ensures.room)

pub run-turned-requires-clause-block_room : goal.run-turned-requires-clause-block_room
run-turned-requires-clause-block_room g c = omega (arith, ap (sum_by blocks_of) c.in-Ok.ensures.messages, c.in-Ok.ensures.block_room.0)

pub run-turned-requires-clause-blocks_come : goal.run-turned-requires-clause-blocks_come
run-turned-requires-clause-blocks_come g c = omega (arith, c.in-Ok.ensures.block_room)

pub run-turned-requires-clause-capacity : goal.run-turned-requires-clause-capacity
run-turned-requires-clause-capacity g c =
    subst (λ (l : List (Notice Stream)). length l + needed c.prepare.new.self.ramped.sink.inputs c.in-Ok.prepared.messages ≤ c.prepare.new.out.capacity) (sym c.prepare.ensures.notices)
    (subst (λ (s : RampSink). length c.args.out.now.notices + needed s.sink.inputs c.in-Ok.prepared.messages ≤ c.prepare.new.out.capacity) (sym c.prepare.ensures.ramped)
    (subst (λ (l : List (Message Stream)). length c.args.out.now.notices + needed c.self.inside.mixer.ramped.sink.inputs l ≤ c.prepare.new.out.capacity) (sym c.in-Ok.ensures.messages) c.in-Ok.ensures.capacity))

pub returns-in-Ok-clause-worn : goal.returns-in-Ok-clause-worn
returns-in-Ok-clause-worn g c =
    subst (λ (l : RampMixer g.row.D.Denot). l.ramped.sink.filled ≤ 2 ^ 60) c.self.view_is (subst (λ (n : ℕ). n ≤ 2 ^ 60) c.filled-filled.ensures c.if-filled-gt-MAX_INDEX.false)

pub returns-in-Err-clause-worn : goal.returns-in-Err-clause-worn
returns-in-Err-clause-worn g c =
    subst (λ (l : RampMixer g.row.D.Denot). l.ramped.sink.filled ≤ 2 ^ 60) c.self.view_is (subst (λ (n : ℕ). n ≤ 2 ^ 60) c.filled-filled.ensures c.if-filled-gt-MAX_INDEX.false)

pub returns-in-Ok-clause-ok : goal.returns-in-Ok-clause-ok
returns-in-Ok-clause-ok g c =
    let t = c.run-turned in
    let d = c.self.inside in
    let after : RampMixer g.row.D.Denot = record { ramped = t.new.mixer.ramped; ramp = t.new.mixer.ramp; device = t.new.device; faults = t.new.faults } in
    subst (λ (l : RampMixer g.row.D.Denot). RampTurns g.D.Device.now l after c.args.messages.now.messages c.args.out.now.notices t.new.out.notices t.result) c.self.view_is
    (subst (λ (s : RampSink). RampTurns g.D.Device.now (record { ramped = s; ramp = d.mixer.ramp; device = d.device; faults = d.faults }) after c.args.messages.now.messages c.args.out.now.notices t.new.out.notices t.result) c.prepare.ensures.ramped
    (subst (λ (n : ℕ). RampTurns g.D.Device.now (record { ramped = c.prepare.new.self.ramped; ramp = n; device = d.device; faults = d.faults }) after c.args.messages.now.messages c.args.out.now.notices t.new.out.notices t.result) c.prepare.ensures.ramp
    (subst (λ (m : List (Message Stream)). RampTurns g.D.Device.now (record { ramped = c.prepare.new.self.ramped; ramp = c.prepare.new.self.ramp; device = d.device; faults = d.faults }) after m c.args.out.now.notices t.new.out.notices t.result) c.in-Ok.ensures.messages
    (subst (λ (n : List (Notice Stream)). RampTurns g.D.Device.now (record { ramped = c.prepare.new.self.ramped; ramp = c.prepare.new.self.ramp; device = d.device; faults = d.faults }) after c.in-Ok.prepared.messages n t.new.out.notices t.result) c.prepare.ensures.notices t.ensures.turns))))

pub run-turned-requires-clause-ramp_room : goal.run-turned-requires-clause-ramp_room
run-turned-requires-clause-ramp_room g c = omega (arith, c.len-count.ensures.count, c.in-Ok.ensures.ramp_room)

pub run-turned-requires-clause-count : goal.run-turned-requires-clause-count
run-turned-requires-clause-count g c = c.len-count.ensures.count ∙ sym (ap length c.in-Ok.ensures.messages)
