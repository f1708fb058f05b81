use Rattle.std.proofs.Common.{◌≡◌, ◌+◌, ◌-◌, ◌*◌, ◌≤◌, ◌++◌, ◌∙◌, length, refl, ap, sym, subst, append-nil, arith}
use Rattle.px_lane.specs.declared.ready.Ready.{Ready}
use Rattle.px_lane.specs.Mixed.{CanMix}
use Rattle.px_lane.specs.Taking.{HasRoomLeft, ReadySuits, ready_blocks, ready_inputs, ready_notices}
use Rattle.px_lane.proofs.Sharing.{come_fed}
use Rattle.px_lane.specs.Costs.{ready_cost}
use Rattle.px_lane.proofs.Costs.{clipped_too, none_altered}
use Rattle.px_lane.proofs.mixed.MixedInputs.take.Goals as goal

pub insert-requires-clause-fed : goal.insert-requires-clause-fed
insert-requires-clause-fed g c =
    let m = c.args.self.now in
    come_fed c.args.self.now.spec.channels c.in-Insert.input.0 c.in-Insert.stream.stream c.args.self.now.inputs
    (subst (λ (r : Ready). CanMix c.args.self.now.spec.channels (ready_inputs c.args.self.now.frames r c.args.self.now.inputs)) c.in-Insert.is c.requires.mixes).fed

pub returns-in-Remove-clause-ticks : goal.returns-in-Remove-clause-ticks
returns-in-Remove-clause-ticks g c =
    let m = c.args.self.now in
    subst (λ (r : Ready). c.leave.new.steps + c.args.self.now.spec.channels * (c.args.self.now.frames - 0) ≤ c.args.steps.now + c.args.self.now.spec.channels * ready_cost c.args.self.now.frames r c.args.self.now.inputs) (sym c.in-Remove.is)
    (clipped_too m.spec.channels (2 * m.frames) m.frames 0 (5 * m.frames) c.args.steps.now c.leave.new.steps c.leave.ensures.ticks (omega arith))

pub returns-in-Join-clause-ticks : goal.returns-in-Join-clause-ticks
returns-in-Join-clause-ticks g c =
    let m = c.args.self.now in
    subst (λ (r : Ready). c.join.new.steps + c.args.self.now.spec.channels * (c.args.self.now.frames - 0) ≤ c.args.steps.now + c.args.self.now.spec.channels * ready_cost c.args.self.now.frames r c.args.self.now.inputs) (sym c.in-Join.is)
    (clipped_too m.spec.channels (4 * m.frames) m.frames 0 (5 * m.frames) c.args.steps.now c.join.new.steps c.join.ensures.ticks (omega arith))

pub returns-in-Insert-clause-ticks : goal.returns-in-Insert-clause-ticks
returns-in-Insert-clause-ticks g c =
    let m = c.args.self.now in
    subst (λ (r : Ready). c.insert.new.steps + c.args.self.now.spec.channels * (c.args.self.now.frames - 0) ≤ c.args.steps.now + c.args.self.now.spec.channels * ready_cost c.args.self.now.frames r c.args.self.now.inputs) (sym c.in-Insert.is)
    (clipped_too m.spec.channels (4 * m.frames) m.frames 0 (5 * m.frames) c.args.steps.now c.insert.new.steps c.insert.ensures.ticks (omega arith))

pub returns-in-Answer-clause-ticks : goal.returns-in-Answer-clause-ticks
returns-in-Answer-clause-ticks g c =
    let m = c.args.self.now in
    subst (λ (r : Ready). c.args.steps.now + c.args.self.now.spec.channels * (c.args.self.now.frames - c.frames-frames.result) ≤ c.args.steps.now + c.args.self.now.spec.channels * ready_cost c.args.self.now.frames r c.args.self.now.inputs) (sym c.in-Answer.is)
    (none_altered m.spec.channels m.frames c.frames-frames.result c.args.steps.now 0 (omega (arith, c.frames-frames.ensures)))

pub returns-in-Change-clause-ticks : goal.returns-in-Change-clause-ticks
returns-in-Change-clause-ticks g c =
    subst (λ (r : Ready). c.alter.new.steps + c.args.self.now.spec.channels * (c.args.self.now.frames - c.alter.result.from) ≤ c.args.steps.now + c.args.self.now.spec.channels * ready_cost c.args.self.now.frames r c.args.self.now.inputs) (sym c.in-Change.is)
    c.alter.ensures.ticks

pub alter-requires-clause-capacity : goal.alter-requires-clause-capacity
alter-requires-clause-capacity g c = subst (λ (r : Ready). length c.args.out.now.notices + length (ready_notices c.args.self.now.frames c.args.buffered r c.args.self.now.inputs) ≤ c.args.out.now.capacity) c.in-Change.is c.requires.capacity

pub alter-requires-clause-mixes : goal.alter-requires-clause-mixes
alter-requires-clause-mixes g c = subst (λ (r : Ready). CanMix c.args.self.now.spec.channels (ready_inputs c.args.self.now.frames r c.args.self.now.inputs)) c.in-Change.is c.requires.mixes

pub alter-requires-clause-suits : goal.alter-requires-clause-suits
alter-requires-clause-suits g c = subst (λ (r : Ready). ReadySuits r c.args.self.now.inputs) c.in-Change.is c.requires.suits

pub alter-requires-clause-block_room : goal.alter-requires-clause-block_room
alter-requires-clause-block_room g c = subst (λ (r : Ready). ready_blocks r ≤ c.args.self.now.block_room) c.in-Change.is c.requires.block_room

pub insert-requires-clause-mixes : goal.insert-requires-clause-mixes
insert-requires-clause-mixes g c = subst (λ (r : Ready). CanMix c.args.self.now.spec.channels (ready_inputs c.args.self.now.frames r c.args.self.now.inputs)) c.in-Insert.is c.requires.mixes

pub insert-requires-clause-stream_room : goal.insert-requires-clause-stream_room
insert-requires-clause-stream_room g c = subst (λ (r : Ready). HasRoomLeft (c.args.self.now.room - 1) c.args.self.now.block_room r) c.in-Insert.is c.requires.comes

pub join-requires-clause-comes : goal.join-requires-clause-comes
join-requires-clause-comes g c = subst (λ (r : Ready). HasRoomLeft (c.args.self.now.room - 1) c.args.self.now.block_room r) c.in-Join.is c.requires.comes

pub join-requires-clause-mixes : goal.join-requires-clause-mixes
join-requires-clause-mixes g c = subst (λ (r : Ready). CanMix c.args.self.now.spec.channels (ready_inputs c.args.self.now.frames r c.args.self.now.inputs)) c.in-Join.is c.requires.mixes

pub join-requires-clause-suits : goal.join-requires-clause-suits
join-requires-clause-suits g c = subst (λ (r : Ready). ReadySuits r c.args.self.now.inputs) c.in-Join.is c.requires.suits

pub leave-requires-clause-capacity : goal.leave-requires-clause-capacity
leave-requires-clause-capacity g c = subst (λ (r : Ready). length c.args.out.now.notices + length (ready_notices c.args.self.now.frames c.args.buffered r c.args.self.now.inputs) ≤ c.args.out.now.capacity) c.in-Remove.is c.requires.capacity

pub leave-requires-clause-mixes : goal.leave-requires-clause-mixes
leave-requires-clause-mixes g c = subst (λ (r : Ready). CanMix c.args.self.now.spec.channels (ready_inputs c.args.self.now.frames r c.args.self.now.inputs)) c.in-Remove.is c.requires.mixes

pub returns-in-Insert-clause-inputs : goal.returns-in-Insert-clause-inputs
returns-in-Insert-clause-inputs g c = c.insert.ensures.inputs ∙ ap (λ (r : Ready). ready_inputs c.args.self.now.frames r c.args.self.now.inputs) (sym c.in-Insert.is)

pub returns-in-Join-clause-inputs : goal.returns-in-Join-clause-inputs
returns-in-Join-clause-inputs g c = c.join.ensures.inputs ∙ ap (λ (r : Ready). ready_inputs c.args.self.now.frames r c.args.self.now.inputs) (sym c.in-Join.is)

pub returns-in-Remove-clause-inputs : goal.returns-in-Remove-clause-inputs
returns-in-Remove-clause-inputs g c = c.leave.ensures.inputs ∙ ap (λ (r : Ready). ready_inputs c.args.self.now.frames r c.args.self.now.inputs) (sym c.in-Remove.is)

pub returns-in-Change-clause-inputs : goal.returns-in-Change-clause-inputs
returns-in-Change-clause-inputs g c = c.alter.ensures.inputs ∙ ap (λ (r : Ready). ready_inputs c.args.self.now.frames r c.args.self.now.inputs) (sym c.in-Change.is)

pub returns-in-Answer-clause-inputs : goal.returns-in-Answer-clause-inputs
returns-in-Answer-clause-inputs g c = ap (λ (r : Ready). ready_inputs c.args.self.now.frames r c.args.self.now.inputs) (sym c.in-Answer.is)

pub returns-in-Insert-clause-notices : goal.returns-in-Insert-clause-notices
returns-in-Insert-clause-notices g c = subst (λ (r : Ready). c.args.out.now.notices ≡ c.args.out.now.notices ++ ready_notices c.args.self.now.frames c.args.buffered r c.args.self.now.inputs) (sym c.in-Insert.is) (sym (append-nil c.args.out.now.notices))

pub returns-in-Join-clause-notices : goal.returns-in-Join-clause-notices
returns-in-Join-clause-notices g c = subst (λ (r : Ready). c.args.out.now.notices ≡ c.args.out.now.notices ++ ready_notices c.args.self.now.frames c.args.buffered r c.args.self.now.inputs) (sym c.in-Join.is) (sym (append-nil c.args.out.now.notices))

pub returns-in-Each-clause-notices : goal.returns-in-Each-clause-notices
returns-in-Each-clause-notices g c = subst (λ (r : Ready). c.args.out.now.notices ≡ c.args.out.now.notices ++ ready_notices c.args.self.now.frames c.args.buffered r c.args.self.now.inputs) (sym c.in-Each.is) (sym (append-nil c.args.out.now.notices))

pub returns-in-Remove-clause-notices : goal.returns-in-Remove-clause-notices
returns-in-Remove-clause-notices g c = subst (λ (r : Ready). c.leave.new.out.notices ≡ c.args.out.now.notices ++ ready_notices c.args.self.now.frames c.args.buffered r c.args.self.now.inputs) (sym c.in-Remove.is) c.leave.ensures.notices

pub returns-in-Change-clause-notices : goal.returns-in-Change-clause-notices
returns-in-Change-clause-notices g c = subst (λ (r : Ready). c.alter.new.out.notices ≡ c.args.out.now.notices ++ ready_notices c.args.self.now.frames c.args.buffered r c.args.self.now.inputs) (sym c.in-Change.is) c.alter.ensures.notices

pub returns-in-Insert-clause-unaltered : goal.returns-in-Insert-clause-unaltered
returns-in-Insert-clause-unaltered g c = λ sink k less. absurd (omega (arith, less))

pub returns-in-Join-clause-unaltered : goal.returns-in-Join-clause-unaltered
returns-in-Join-clause-unaltered g c = λ sink k less. absurd (omega (arith, less))

pub returns-in-Remove-clause-unaltered : goal.returns-in-Remove-clause-unaltered
returns-in-Remove-clause-unaltered g c = λ sink k less. absurd (omega (arith, less))

pub returns-in-Change-clause-unaltered : goal.returns-in-Change-clause-unaltered
returns-in-Change-clause-unaltered g c = c.alter.ensures.unaltered

pub returns-in-Each-clause-unaltered : goal.returns-in-Each-clause-unaltered
returns-in-Each-clause-unaltered g c = λ sink k less. c.set_factors-same.ensures.mixes sink k (omega (arith, less, c.from_on.ensures.from))

pub returns-in-Insert-clause-resumed : goal.returns-in-Insert-clause-resumed
returns-in-Insert-clause-resumed g c = λ sink k past less. absurd (omega (arith, past, less, c.frames-frames.ensures))

pub returns-in-Join-clause-resumed : goal.returns-in-Join-clause-resumed
returns-in-Join-clause-resumed g c = λ sink k past less. absurd (omega (arith, past, less, c.frames-frames.ensures))

pub returns-in-Remove-clause-resumed : goal.returns-in-Remove-clause-resumed
returns-in-Remove-clause-resumed g c = λ sink k past less. absurd (omega (arith, past, less, c.frames-frames.ensures))

pub returns-in-Change-clause-resumed : goal.returns-in-Change-clause-resumed
returns-in-Change-clause-resumed g c = c.alter.ensures.resumed

pub returns-in-Each-clause-resumed : goal.returns-in-Each-clause-resumed
returns-in-Each-clause-resumed g c = λ sink k past less. c.set_factors-same.ensures.mixes sink k (c.from_on.ensures.past k past (omega (arith, less, c.frames-frames.ensures)))

pub returns-in-Answer-clause-resumed : goal.returns-in-Answer-clause-resumed
returns-in-Answer-clause-resumed g c = λ sink k past less. refl

pub returns-in-Answer-clause-unaltered : goal.returns-in-Answer-clause-unaltered
returns-in-Answer-clause-unaltered g c = λ sink k less. refl

pub returns-in-Insert-clause-block_room : goal.returns-in-Insert-clause-block_room
returns-in-Insert-clause-block_room g c = subst (λ (r : Ready). c.insert.new.self.block_room + ready_blocks r ≡ c.args.self.now.block_room) (sym c.in-Insert.is) (omega (arith, c.insert.ensures.block_room))

pub returns-in-Join-clause-block_room : goal.returns-in-Join-clause-block_room
returns-in-Join-clause-block_room g c = subst (λ (r : Ready). c.join.new.self.block_room + ready_blocks r ≡ c.args.self.now.block_room) (sym c.in-Join.is) (omega (arith, c.join.ensures.block_room))

pub returns-in-Remove-clause-block_room : goal.returns-in-Remove-clause-block_room
returns-in-Remove-clause-block_room g c = subst (λ (r : Ready). c.leave.new.self.block_room + ready_blocks r ≡ c.args.self.now.block_room) (sym c.in-Remove.is) (omega (arith, c.leave.ensures.block_room))

pub returns-in-Each-clause-block_room : goal.returns-in-Each-clause-block_room
returns-in-Each-clause-block_room g c = subst (λ (r : Ready). c.set_factors-same.new.self.block_room + ready_blocks r ≡ c.args.self.now.block_room) (sym c.in-Each.is) (omega (arith, c.set_factors-same.ensures.block_room))

pub returns-in-Change-clause-block_room : goal.returns-in-Change-clause-block_room
returns-in-Change-clause-block_room g c = subst (λ (r : Ready). c.alter.new.self.block_room + ready_blocks r ≡ c.args.self.now.block_room) (sym c.in-Change.is) c.alter.ensures.block_room

pub answer-requires : goal.answer-requires
answer-requires g c = subst (λ (r : Ready). length c.args.out.now.notices + length (ready_notices c.args.self.now.frames c.args.buffered r c.args.self.now.inputs) ≤ c.args.out.now.capacity) c.in-Answer.is c.requires.capacity

pub returns-in-Answer-clause-notices : goal.returns-in-Answer-clause-notices
returns-in-Answer-clause-notices g c = subst (λ (r : Ready). c.answer.new.out.notices ≡ c.args.out.now.notices ++ ready_notices c.args.self.now.frames c.args.buffered r c.args.self.now.inputs) (sym c.in-Answer.is) c.answer.ensures.notices

pub returns-in-Answer-clause-block_room : goal.returns-in-Answer-clause-block_room
returns-in-Answer-clause-block_room g c = subst (λ (r : Ready). c.args.self.now.block_room + ready_blocks r ≡ c.args.self.now.block_room) (sym c.in-Answer.is) (omega arith)
