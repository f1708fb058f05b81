use Rattle.std.proofs.Common.{arith, ◌≡◌, length, subst, sym}
use Rattle.std.proofs.lemmas.List.{with_items_is}
use Rattle.px_state.specs.Tables.{HavePlaces}
use Rattle.px_state.proofs.release.release_of.Goals as goal

pub returns-clause-room : goal.returns-clause-room
returns-clause-room g c = λ n had.
    let posted = c.args.tables.now.posted in
    let queues = c.release.new.posted in
    let all : length queues ≡ posted.len = search (arith, c.release.auto.posted, c.deref_mut.ensures.len, c.deref_mut.ensures.value) in
    record {
      places = omega (arith, had.places);
      streams = omega (arith, had.streams);
      lists = omega (arith, had.lists);
      waiting = omega (arith, had.waiting);
      delayed = omega (arith, had.delayed, c.release.ensures.len, c.release.ensures.capacity);
      posted = subst (HavePlaces n) (sym (with_items_is posted queues all)) (c.release.ensures.room n (rw c.deref_mut.ensures.value had.posted));
    }
