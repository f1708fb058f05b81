use Rattle.px_ctl_info.proofs.Removed.{is_key_there}
use Rattle.px_ctl_info.proofs.properties.mark.Goals as goal

pub set-requires-clause-key : goal.set-requires-clause-key
set-requires-clause-key c = is_key_there c.args.list.now c.args.key.now c.len-count.ensures.rules c.requires
