use Rattle.std.proofs.Common.{arith, ◌+◌, ◌++◌, ◌∷◌, [], get_or}
use Rattle.px_state.specs.Tables.{lists_of}
use Rattle.px_state.proofs.Waiting.{set_lists_to, get_lists, fewer_places, set_places, get_places}
use Rattle.px_state.proofs.queues.post.Goals as goal

pub returns-then-place-queues-clause-posted : goal.returns-then-place-queues-clause-posted
returns-then-place-queues-clause-posted g c =
    let xs = c.args.queues.now in
    let i = c.args.sink.0 in
    let d = c.index-queues-place.result in
    set_lists_to xs i c.push_back_reserved.new.self (get_or (lists_of xs) i [] ++ c.args.msg ∷ []) (rw (get_lists xs i d c.if-place-queues.true) c.push_back_reserved.ensures.items)

pub returns-then-place-queues-clause-room : goal.returns-then-place-queues-clause-room
returns-then-place-queues-clause-room g c = λ n have.
    let xs = c.args.queues.now in
    let i = c.args.sink.0 in
    let d = c.index-queues-place.result in
    let had = get_places (n + 1) xs i d c.if-place-queues.true have in
    set_places n xs i c.push_back_reserved.new.self (fewer_places n xs have) (omega (arith, had, c.push_back_reserved.ensures))

pub returns-else-place-queues-clause-room : goal.returns-else-place-queues-clause-room
returns-else-place-queues-clause-room g c = λ n have. fewer_places n c.args.queues.now have
