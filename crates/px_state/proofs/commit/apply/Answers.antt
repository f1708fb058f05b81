use Rattle.px_state.specs.Tables.{state_of}
use Rattle.px_state.proofs.Families.{as_found}
use Rattle.px_state.proofs.commit.apply.Goals as goal

pub returns-in-Made-clause-state : goal.returns-in-Made-clause-state
returns-in-Made-clause-state g c = as_found (state_of c.args.tables.now) _ c.args.change _ c.in-Made.is c.make.ensures.state

pub returns-in-Made-clause-room : goal.returns-in-Made-clause-room
returns-in-Made-clause-room g c = c.make.ensures.room

pub returns-in-Regrouped-clause-state : goal.returns-in-Regrouped-clause-state
returns-in-Regrouped-clause-state g c = as_found (state_of c.args.tables.now) _ c.args.change _ c.in-Regrouped.is c.regroup.ensures.state

pub returns-in-Regrouped-clause-room : goal.returns-in-Regrouped-clause-room
returns-in-Regrouped-clause-room g c = c.regroup.ensures.room

pub returns-in-Asked-clause-state : goal.returns-in-Asked-clause-state
returns-in-Asked-clause-state g c = as_found (state_of c.args.tables.now) _ c.args.change _ c.in-Asked.is c.ask.ensures.state

pub returns-in-Asked-clause-room : goal.returns-in-Asked-clause-room
returns-in-Asked-clause-room g c = c.ask.ensures.room

pub returns-in-Answered-clause-state : goal.returns-in-Answered-clause-state
returns-in-Answered-clause-state g c = as_found (state_of c.args.tables.now) _ c.args.change _ c.in-Answered.is c.answer.ensures.state

pub returns-in-Answered-clause-room : goal.returns-in-Answered-clause-room
returns-in-Answered-clause-room g c = c.answer.ensures.room
