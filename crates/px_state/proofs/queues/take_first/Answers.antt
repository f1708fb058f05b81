use Rattle.std.proofs.Common.{arith, [], get_or}
use Rattle.px_state.specs.Out.{rest_of}
use Rattle.px_state.specs.Tables.{lists_of}
use Rattle.px_state.proofs.Waiting.{set_lists_to, get_lists, same_lists, rest_is_dropped, none_left, room_popped}
use Rattle.px_state.proofs.queues.take_first.Goals as goal

pub returns-then-place-queues-clause-rest : goal.returns-then-place-queues-clause-rest
returns-then-place-queues-clause-rest g c = λ _.
    let xs = c.args.queues.now in
    let i = c.args.sink.0 in
    let d = c.index-queues-place.result in
    let q = get_or xs i d in
    set_lists_to xs i c.take_front.new.queue (rest_of (get_or (lists_of xs) i [])) (rw (get_lists xs i d c.if-place-queues.true, ← rest_is_dropped q.items) c.take_front.ensures.rest)

pub returns-then-place-queues-clause-none : goal.returns-then-place-queues-clause-none
returns-then-place-queues-clause-none g c = λ none.
    let xs = c.args.queues.now in
    let i = c.args.sink.0 in
    let d = c.index-queues-place.result in
    same_lists xs i d c.take_front.new.queue (none_left c.take_front.result (get_or xs i d).items c.take_front.new.queue.items c.take_front.ensures.items none)

pub returns-then-place-queues-clause-room : goal.returns-then-place-queues-clause-room
returns-then-place-queues-clause-room g c =
    let xs = c.args.queues.now in
    let d = c.index-queues-place.result in
    let q = get_or xs c.args.sink.0 d in
    room_popped c.take_front.result xs c.args.sink d c.take_front.new.queue c.if-place-queues.true c.take_front.ensures.capacity c.take_front.ensures.len (omega (arith, q.small.1))
