use Rattle.std.proofs.Common.{arith, ◌∙◌, ap, sym, subst, length}
use Rattle.std.specs.VecDeque.{deque_len, deque_capacity}
use Rattle.px_names.specs.InputLists.{RoomyLists}
use Rattle.px_input_table.specs.InputTable.{RoomyInputs}
use Rattle.px_state.specs.Tables.{HavePlaces}
use Rattle.px_state.proofs.Waiting.{fewer_places}
use Rattle.px_state.proofs.Rooms.{less_room, same_listed, same_waits, same_delays, room_left}
use Rattle.px_state.proofs.commit.post_to_input.Goals as goal

pub returns-in-Settled-clause-room : goal.returns-in-Settled-clause-room
returns-in-Settled-clause-room g c = λ n had.
    let items = ap (λ (t : RoomyInputs). length t.items) c.post.ensures.inputs in
    let places = ap (λ (t : RoomyInputs). t.places) c.post.ensures.inputs ∙ c.note.ensures.places in
    let streams = ap (λ (t : RoomyInputs). t.streams) c.post.ensures.inputs in
    room_left n c.args.tables.now c.post.new.tables
    (record {
      len = omega (arith, items, c.note.ensures.len);
      places = places;
      streams = omega (arith, streams, c.note.ensures.streams);
    })
    (same_listed c.args.tables.now.lists c.post.new.tables.lists c.post.ensures.lists)
    (same_waits c.args.tables.now c.post.new.tables c.post.ensures.waiting)
    (same_delays c.args.tables.now c.post.new.tables c.post.ensures.delayed)
    (c.post.ensures.room n had.posted) had

pub returns-in-Moving-clause-room : goal.returns-in-Moving-clause-room
returns-in-Moving-clause-room g c = λ n had.
    let late = c.delay.ensures in
    record {
      places = omega (arith, ap (λ (t : RoomyInputs). length t.items) late.inputs, ap (λ (t : RoomyInputs). t.places) late.inputs, had.places, c.note-in-Moving.ensures.len, c.note-in-Moving.ensures.places);
      streams = omega (arith, ap (λ (t : RoomyInputs). t.streams) late.inputs, had.streams, c.note-in-Moving.ensures.streams);
      lists = omega (arith, ap (λ (t : RoomyLists). length t.items) late.lists, ap (λ (t : RoomyLists). t.places) late.lists, had.lists);
      waiting = omega (arith, ap (λ v. deque_len v) late.waiting, ap (λ v. deque_capacity v) late.waiting, had.waiting);
      delayed = omega (arith, late.len, late.capacity, had.delayed);
      posted = subst (λ q. HavePlaces n q.items) (sym late.posted) (fewer_places n c.args.tables.now.posted.items had.posted);
    }

pub returns-in-Leaving-clause-room : goal.returns-in-Leaving-clause-room
returns-in-Leaving-clause-room g c = λ n had. less_room n c.args.tables.now had
