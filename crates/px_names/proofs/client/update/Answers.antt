use Rattle.std.proofs.Common.{sym}
use Rattle.px_names.specs.Clients.{has_index, with_update}
use Rattle.px_names.proofs.Changes.{changed, unchanged}
use Rattle.px_names.proofs.client.update.Goals as goal

pub returns-in_default-clause-updated : goal.returns-in_default-clause-updated
returns-in_default-clause-updated c = unchanged (has_index c.args.index) (with_update c.args.mode c.args.list.now) c.args.clients.now (sym c.in_default.ensures)

pub returns-in-Ok-clause-updated : goal.returns-in-Ok-clause-updated
returns-in-Ok-clause-updated c = rw (c.in-Ok.ensures.updated) (sym (changed (has_index c.args.index) (with_update c.args.mode c.args.list.now) c.args.clients.now c.in-Some.place c.index-clients-place.result (sym c.in-Some.ensures)))
