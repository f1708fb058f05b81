use Rattle.std.proofs.Common.{arith, ◌∙◌, ap, length}
use Rattle.std.specs.Prelude.{vec_capacity}
use Rattle.std.specs.VecDeque.{deque_len, deque_capacity}
use Rattle.px_input_table.specs.InputTable.{RoomyInputs}
use Rattle.px_state.proofs.Waiting.{fewer_places}
use Rattle.px_state.proofs.Rooms.{less_room, same_listed, room_left}
use Rattle.px_state.proofs.commit.end.Goals as goal

pub returns-in-Settled-clause-room : goal.returns-in-Settled-clause-room
returns-in-Settled-clause-room g c = λ n had.
    let items = ap (λ (t : RoomyInputs). length t.items) c.post.ensures.inputs in
    let places = ap (λ (t : RoomyInputs). t.places) c.post.ensures.inputs ∙ c.leave.ensures.places in
    let streams = ap (λ (t : RoomyInputs). t.streams) c.post.ensures.inputs in
    room_left n c.args.tables.now c.post.new.tables
    (record {
      len = omega (arith, items, c.leave.ensures.len);
      places = places;
      streams = omega (arith, streams, c.leave.ensures.streams);
    })
    (same_listed c.args.tables.now.lists c.post.new.tables.lists c.post.ensures.lists)
    (record {
      len = omega (arith, ap (λ v. deque_len v) c.post.ensures.waiting, c.remove_input.ensures.len);
      capacity = ap (λ v. deque_capacity v) c.post.ensures.waiting ∙ c.remove_input.ensures.capacity;
    })
    (record {
      len = omega (arith, ap (λ v. length v.items) c.post.ensures.delayed, c.remove_input-in-Settled.ensures.len);
      capacity = ap (λ v. vec_capacity v) c.post.ensures.delayed ∙ c.remove_input-in-Settled.ensures.capacity;
    })
    (c.post.ensures.room n had.posted) had

pub returns-in-Moving-clause-room : goal.returns-in-Moving-clause-room
returns-in-Moving-clause-room g c = λ n had.
    record {
      places = omega (arith, had.places, c.leave-in-Moving.ensures.len, c.leave-in-Moving.ensures.places);
      streams = omega (arith, had.streams, c.leave-in-Moving.ensures.streams);
      lists = omega (arith, had.lists);
      waiting = omega (arith, had.waiting, c.remove_input-in-Moving.ensures.len, c.remove_input-in-Moving.ensures.capacity);
      delayed = omega (arith, had.delayed, c.remove_input-in-Moving-2.ensures.len, c.remove_input-in-Moving-2.ensures.capacity);
      posted = fewer_places n c.args.tables.now.posted.items had.posted;
    }

pub returns-in-Leaving-clause-room : goal.returns-in-Leaving-clause-room
returns-in-Leaving-clause-room g c = λ n had. less_room n c.args.tables.now had
