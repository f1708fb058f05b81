use Rattle.std.proofs.Common.{arith, ◌∷◌, [], get_or}
use Rattle.px_state.specs.Tables.{lists_of}
use Rattle.px_state.proofs.Waiting.{set_lists_to, get_lists, get_rooms, room_pushed, no_room_past}
use Rattle.px_state.proofs.queues.put_first.Goals as goal

pub push_front_reserved-requires : goal.push_front_reserved-requires
push_front_reserved-requires g c = omega (arith, get_rooms c.args.queues.now c.args.sink.0 c.index-queues-place.result c.if-place-queues.true, c.requires)

pub returns-then-place-queues-clause-lists : goal.returns-then-place-queues-clause-lists
returns-then-place-queues-clause-lists g c =
    let xs = c.args.queues.now in
    let i = c.args.sink.0 in
    let d = c.index-queues-place.result in
    set_lists_to xs i c.push_front_reserved.new.self (c.args.msg ∷ get_or (lists_of xs) i []) (rw (get_lists xs i d c.if-place-queues.true) c.push_front_reserved.ensures.items)

pub returns-then-place-queues-clause-room : goal.returns-then-place-queues-clause-room
returns-then-place-queues-clause-room g c =
    room_pushed c.args.queues.now c.args.sink c.index-queues-place.result c.push_front_reserved.new.self c.if-place-queues.true c.push_front_reserved.ensures.capacity c.push_front_reserved.ensures.len

pub returns-else-place-queues-clause-lists : goal.returns-else-place-queues-clause-lists
returns-else-place-queues-clause-lists g c = absurd (omega (arith, no_room_past c.args.queues.now c.args.sink.0 (omega (arith, c.if-place-queues.false)), c.requires))

pub returns-else-place-queues-clause-room : goal.returns-else-place-queues-clause-room
returns-else-place-queues-clause-room g c = absurd (omega (arith, no_room_past c.args.queues.now c.args.sink.0 (omega (arith, c.if-place-queues.false)), c.requires))
