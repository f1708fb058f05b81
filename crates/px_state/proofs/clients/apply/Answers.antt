use Rattle.std.proofs.Common.{ap, refl}
use Rattle.px_state.specs.Tables.{state_of}
use Rattle.px_state.proofs.Families.{as_found}
use Rattle.px_state.proofs.Rooms.{room_beside}
use Rattle.px_state.proofs.clients.apply.Goals as goal

pub returns-in-Authed-clause-state : goal.returns-in-Authed-clause-state
returns-in-Authed-clause-state g c = as_found (state_of c.args.tables.now) _ c.args.change _ c.in-Authed.is c.set_version.ensures.state

pub returns-in-Authed-clause-room : goal.returns-in-Authed-clause-room
returns-in-Authed-clause-room g c = c.set_version.ensures.room

pub returns-in-Named-clause-state : goal.returns-in-Named-clause-state
returns-in-Named-clause-state g c = as_found (state_of c.args.tables.now) _ c.args.change _ c.in-Named.is (ap (λ names. record (state_of c.args.tables.now) { names = names }) c.set_list.ensures)

pub returns-in-Named-clause-room : goal.returns-in-Named-clause-room
returns-in-Named-clause-room g c = λ n had. room_beside n c.args.tables.now _ refl refl refl refl refl had

pub returns-in-Masked-clause-state : goal.returns-in-Masked-clause-state
returns-in-Masked-clause-state g c = as_found (state_of c.args.tables.now) _ c.args.change _ c.in-Masked.is (ap (λ names. record (state_of c.args.tables.now) { names = names }) c.set_mask.ensures)

pub returns-in-Masked-clause-room : goal.returns-in-Masked-clause-room
returns-in-Masked-clause-room g c = λ n had. room_beside n c.args.tables.now _ refl refl refl refl refl had

pub returns-in-Defaulted-clause-state : goal.returns-in-Defaulted-clause-state
returns-in-Defaulted-clause-state g c = as_found (state_of c.args.tables.now) _ c.args.change _ c.in-Defaulted.is (ap (λ names. record (state_of c.args.tables.now) { names = names }) c.make_default.ensures)

pub returns-in-Defaulted-clause-room : goal.returns-in-Defaulted-clause-room
returns-in-Defaulted-clause-room g c = λ n had. room_beside n c.args.tables.now _ refl refl refl refl refl had

pub returns-in-Ended-clause-state : goal.returns-in-Ended-clause-state
returns-in-Ended-clause-state g c = as_found (state_of c.args.tables.now) _ c.args.change _ c.in-Ended.is c.mark.ensures.state

pub returns-in-Ended-clause-room : goal.returns-in-Ended-clause-room
returns-in-Ended-clause-room g c = c.mark.ensures.room

pub returns-in-Forgotten-clause-state : goal.returns-in-Forgotten-clause-state
returns-in-Forgotten-clause-state g c = as_found (state_of c.args.tables.now) _ c.args.change _ c.in-Forgotten.is c.forget.ensures.state

pub returns-in-Forgotten-clause-room : goal.returns-in-Forgotten-clause-room
returns-in-Forgotten-clause-room g c = c.forget.ensures.room
