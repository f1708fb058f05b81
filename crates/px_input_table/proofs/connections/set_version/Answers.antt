use Rattle.std.proofs.Common.{sym}
use Rattle.px_outcome.specs.Input.{has_number}
use Rattle.px_input_table.specs.Connections.{authed}
use Rattle.px_input_table.proofs.First.{changed, unchanged}
use Rattle.px_input_table.proofs.connections.set_version.Goals as goal

pub returns-in-Some : goal.returns-in-Some
returns-in-Some c = sym (changed (has_number c.args.conn) (authed c.args.version) c.args.connections.now c.in-Some.place _ (sym c.in-Some.ensures))

pub returns-in_default : goal.returns-in_default
returns-in_default c = unchanged (has_number c.args.conn) (authed c.args.version) c.args.connections.now (sym c.in_default.ensures)
