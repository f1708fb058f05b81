use Rattle.std.proofs.Common.{sym}
use Rattle.px_names.specs.Clients.{is_on, with_list}
use Rattle.px_names.proofs.Changes.{changed, unchanged}
use Rattle.px_names.proofs.client.set_list.Goals as goal

pub returns-in-Some : goal.returns-in-Some
returns-in-Some c = sym (changed (is_on c.args.conn) (with_list c.args.list) c.args.clients.now c.in-Some.place c.index-clients-place.result (sym c.in-Some.ensures))

pub returns-in_default : goal.returns-in_default
returns-in_default c = unchanged (is_on c.args.conn) (with_list c.args.list) c.args.clients.now (sym c.in_default.ensures)
