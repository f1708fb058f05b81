use Rattle.px_ctl_play.proofs.Passed.{created_as}
use Rattle.px_ctl_play.proofs.creation.created.Goals as goal

pub returns-in-Ok : goal.returns-in-Ok
returns-in-Ok g c =
    created_as c.args.inputs.now c.args.made c.args.me.now c.args.tag c.args.sink c.args.group.now c.args.a.now c.args.feed c.replied.result c.input_made-x.result c.in_ok-group.group c.in-Ok.reply c.in_ok-changes.changes.items
    c.replied.ensures c.in-Ok.ensures c.in_ok-changes.ensures c.in_ok-group.ensures.value c.input_made-x.ensures.value
