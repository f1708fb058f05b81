use Rattle.std.proofs.Common.{◌≡◌, Some, None, sym, ◌∙◌}
use Rattle.std.specs.List.{position}
use Rattle.px_names.specs.Clients.{is_on}
use Rattle.px_names.proofs.Changes.{removed, unremoved}
use Rattle.px_names.proofs.client.forget.Goals as goal

pub returns-in-Some : goal.returns-in-Some
returns-in-Some c =
    let found : position (is_on c.args.conn) c.args.clients.now.items ≡ Some c.in-Some.place = rw (← c.as_slice.ensures.value) (sym c.in-Some.ensures) in
    c.remove.ensures.items ∙ removed (is_on c.args.conn) c.args.clients.now.items c.in-Some.place c.remove.result found

pub returns-in_default : goal.returns-in_default
returns-in_default c =
    let found : position (is_on c.args.conn) c.args.clients.now.items ≡ None = rw (← c.as_slice.ensures.value) (sym c.in_default.ensures) in
    unremoved (is_on c.args.conn) c.args.clients.now.items found
