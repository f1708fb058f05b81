use Rattle.std.proofs.Common.{sym}
use Rattle.px_state.proofs.Rooms.{less_room}
use Rattle.px_state.proofs.Found.{by_own}
use Rattle.px_state.proofs.commit.arrive_by_index.Goals as goal

pub returns-in-None-clause-room : goal.returns-in-None-clause-room
returns-in-None-clause-room g c = λ n had. less_room n c.args.tables.now had

pub arrive-requires-clause-here : goal.arrive-requires-clause-here
arrive-requires-clause-here g c = by_own c.args.tables.now.inputs.items c.args.index c.in-Some.x (sym c.in-Some.ensures)
