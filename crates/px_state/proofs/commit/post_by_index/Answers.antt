use Rattle.px_state.proofs.Rooms.{less_room}
use Rattle.px_state.proofs.commit.post_by_index.Goals as goal

pub returns-in-None-clause-room : goal.returns-in-None-clause-room
returns-in-None-clause-room g c = λ n had. less_room n c.args.tables.now had
