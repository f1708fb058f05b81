use Rattle.std.proofs.Common.{arith, ◌∙◌}
use Rattle.px_state.proofs.Waiting.{same_lists, one_more_has, all_have}
use Rattle.px_state.proofs.queues.reserve.Goals as goal

pub returns-in_err-reserve-clause-lists : goal.returns-in_err-reserve-clause-lists
returns-in_err-reserve-clause-lists g c =
    same_lists c.loop-place.queues c.loop-place.place c.index-queues-place.result c.reserve.new.self c.reserve.ensures.items ∙ c.loop-place.invariant.lists

pub loop-place-preserved : goal.loop-place-preserved
loop-place-preserved g c = record {
  lists = same_lists c.loop-place.queues c.loop-place.place c.index-queues-place.result c.reserve.new.self c.reserve.ensures.items ∙ c.loop-place.invariant.lists;
  room = one_more_has c.args.more c.loop-place.queues c.loop-place.place c.reserve.new.self c.loop-place.invariant.room c.in_ok-reserve.ensures.ok;
}

pub returns-clause-room : goal.returns-clause-room
returns-clause-room g c = all_have c.args.more c.loop-place.queues (λ k within. c.loop-place.invariant.room k (omega (arith, within, c.loop-place.auto.queues, c.loop-place-test.false)))
