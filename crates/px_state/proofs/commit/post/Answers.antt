use Rattle.std.proofs.Common.{arith, ◌≡◌, length, subst, sym}
use Rattle.std.proofs.lemmas.List.{with_items_is}
use Rattle.px_state.specs.Tables.{HavePlaces}
use Rattle.px_state.proofs.commit.post.Goals as goal

pub returns-clause-room : goal.returns-clause-room
returns-clause-room g c = λ n had.
    let posted = c.args.tables.now.posted in
    let queues = c.post.new.queues in
    let all : length queues ≡ posted.len = search (arith, c.post.auto.queues, c.deref_mut.ensures.len, c.deref_mut.ensures.value) in
    subst (HavePlaces n) (sym (with_items_is posted queues all)) (c.post.ensures.room n (rw c.deref_mut.ensures.value had))
