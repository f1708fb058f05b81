use Rattle.std.proofs.Common.{arith, ◌∙◌, ap, length}
use Rattle.px_input_table.specs.InputTable.{RoomyInputs}
use Rattle.px_state.proofs.Rooms.{less_room, same_listed, same_waits, same_delays, room_left}
use Rattle.px_state.proofs.commit.depart.Goals as goal

pub returns-in-Settled-clause-room : goal.returns-in-Settled-clause-room
returns-in-Settled-clause-room g c = λ n had.
    let items = ap (λ (t : RoomyInputs). length t.items) c.post.ensures.inputs in
    let places = ap (λ (t : RoomyInputs). t.places) c.post.ensures.inputs ∙ c.depart.ensures.places in
    let streams = ap (λ (t : RoomyInputs). t.streams) c.post.ensures.inputs in
    room_left n c.args.tables.now c.post.new.tables
    (record {
      len = omega (arith, items, c.depart.ensures.len);
      places = places;
      streams = omega (arith, streams, c.depart.ensures.streams);
    })
    (same_listed c.args.tables.now.lists c.post.new.tables.lists c.post.ensures.lists)
    (same_waits c.args.tables.now c.post.new.tables c.post.ensures.waiting)
    (same_delays c.args.tables.now c.post.new.tables c.post.ensures.delayed)
    (c.post.ensures.room n had.posted) had

pub returns-in-Moving-clause-room : goal.returns-in-Moving-clause-room
returns-in-Moving-clause-room g c = λ n had. less_room n c.args.tables.now had

pub returns-in-Leaving-clause-room : goal.returns-in-Leaving-clause-room
returns-in-Leaving-clause-room g c = λ n had. less_room n c.args.tables.now had
