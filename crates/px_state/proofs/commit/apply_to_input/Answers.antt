use Rattle.px_state.specs.Tables.{state_of}
use Rattle.px_state.proofs.Families.{as_found}
use Rattle.px_state.proofs.commit.apply_to_input.Goals as goal

pub returns-in-Described-clause-state : goal.returns-in-Described-clause-state
returns-in-Described-clause-state g c = as_found (state_of c.args.tables.now) _ c.args.change _ c.in-Described.is c.describe.ensures.state

pub returns-in-Described-clause-room : goal.returns-in-Described-clause-room
returns-in-Described-clause-room g c = c.describe.ensures.room

pub returns-in-Leaves-clause-state : goal.returns-in-Leaves-clause-state
returns-in-Leaves-clause-state g c = as_found (state_of c.args.tables.now) _ c.args.change _ c.in-Leaves.is c.leave.ensures.state

pub returns-in-Leaves-clause-room : goal.returns-in-Leaves-clause-room
returns-in-Leaves-clause-room g c = c.leave.ensures.room

pub returns-in-Moves-clause-state : goal.returns-in-Moves-clause-state
returns-in-Moves-clause-state g c = as_found (state_of c.args.tables.now) _ c.args.change _ c.in-Moves.is c.depart_by_index.ensures.state

pub returns-in-Moves-clause-room : goal.returns-in-Moves-clause-room
returns-in-Moves-clause-room g c = c.depart_by_index.ensures.room

pub returns-in-Arrives-clause-state : goal.returns-in-Arrives-clause-state
returns-in-Arrives-clause-state g c = as_found (state_of c.args.tables.now) _ c.args.change _ c.in-Arrives.is c.arrive_by_index.ensures.state

pub returns-in-Arrives-clause-room : goal.returns-in-Arrives-clause-room
returns-in-Arrives-clause-room g c = c.arrive_by_index.ensures.room

pub returns-in-Released-clause-state : goal.returns-in-Released-clause-state
returns-in-Released-clause-state g c = as_found (state_of c.args.tables.now) _ c.args.change _ c.in-Released.is c.release.ensures.state

pub returns-in-Released-clause-room : goal.returns-in-Released-clause-room
returns-in-Released-clause-room g c = c.release.ensures.room

pub returns-in-Posted-clause-state : goal.returns-in-Posted-clause-state
returns-in-Posted-clause-state g c = as_found (state_of c.args.tables.now) _ c.args.change _ c.in-Posted.is c.post_by_index.ensures.state

pub returns-in-Posted-clause-room : goal.returns-in-Posted-clause-room
returns-in-Posted-clause-room g c = c.post_by_index.ensures.room

pub returns-in-Gone-clause-state : goal.returns-in-Gone-clause-state
returns-in-Gone-clause-state g c = as_found (state_of c.args.tables.now) _ c.args.change _ c.in-Gone.is c.remove_input.ensures.state

pub returns-in-Gone-clause-room : goal.returns-in-Gone-clause-room
returns-in-Gone-clause-room g c = c.remove_input.ensures.room
