use Rattle.px_state.proofs.Rooms.{same_roomy, same_listed, same_waits, same_delays, room_left}
use Rattle.px_state.proofs.commit.regroup.Goals as goal

pub returns-clause-room : goal.returns-clause-room
returns-clause-room g c = λ n had.
    room_left n c.args.tables.now c.post.new.tables (same_roomy c.args.tables.now.inputs c.post.new.tables.inputs c.post.ensures.inputs)
    (same_listed c.args.tables.now.lists c.post.new.tables.lists c.post.ensures.lists)
    (same_waits c.args.tables.now c.post.new.tables c.post.ensures.waiting) (same_delays c.args.tables.now c.post.new.tables c.post.ensures.delayed) (c.post.ensures.room n had.posted) had
