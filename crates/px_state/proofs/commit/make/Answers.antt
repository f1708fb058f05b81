use Rattle.std.proofs.Common.{arith, ◌∙◌, ◌∷◌, [], ap, length, length-append}
use Rattle.px_input_table.specs.InputTable.{RoomyInputs}
use Rattle.px_state.proofs.Rooms.{same_listed, same_waits, same_delays, room_left}
use Rattle.px_state.proofs.commit.make.Goals as goal

pub returns-clause-room : goal.returns-clause-room
returns-clause-room g c = λ n had.
    let old = c.args.tables.now.inputs in
    let items = ap (λ (t : RoomyInputs). t.items) c.post.ensures.inputs ∙ c.push.ensures.items in
    let places = ap (λ (t : RoomyInputs). t.places) c.post.ensures.inputs ∙ c.push.ensures.places in
    let streams = ap (λ (t : RoomyInputs). t.streams) c.post.ensures.inputs in
    room_left n c.args.tables.now c.post.new.tables
    (record {
      len = omega (arith, ap length items, length-append old.items (c.args.x ∷ []));
      places = places;
      streams = omega (arith, streams, c.push.ensures.streams);
    })
    (same_listed c.args.tables.now.lists c.post.new.tables.lists c.post.ensures.lists)
    (same_waits c.args.tables.now c.post.new.tables c.post.ensures.waiting) (same_delays c.args.tables.now c.post.new.tables c.post.ensures.delayed)
    (c.post.ensures.room n had.posted) had
