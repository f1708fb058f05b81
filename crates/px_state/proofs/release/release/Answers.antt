use Rattle.std.proofs.Common.{sym, ◌∙◌, None, Some}
use Rattle.px_state.specs.Tables.{state_of}
use Rattle.px_state.proofs.Releases.{all_released}
use Rattle.px_state.proofs.Rooms.{room_kept}
use Rattle.px_state.proofs.release.release.Goals as goal

pub returns-in-None-clause-state : goal.returns-in-None-clause-state
returns-in-None-clause-state g c = all_released c.args.index None c.args.count (state_of c.args.tables.now) (sym c.in-None.ensures)

pub returns-in-None-clause-room : goal.returns-in-None-clause-room
returns-in-None-clause-room g c = λ n had. room_kept n c.args.count c.args.tables.now had

pub returns-in-Some-clause-state : goal.returns-in-Some-clause-state
returns-in-Some-clause-state g c = c.release_of.ensures.state ∙ all_released c.args.index (Some c.in-Some.x) c.args.count (state_of c.args.tables.now) (sym c.in-Some.ensures)
