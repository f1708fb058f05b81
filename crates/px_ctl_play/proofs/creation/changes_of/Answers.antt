use Rattle.std.proofs.Common.{}
use Rattle.px_ctl_play.proofs.creation.changes_of.Goals as goal

pub returns-in-Ok : goal.returns-in-Ok
returns-in-Ok g c = rw (c.in_ok-changes.ensures, c.in-Ok.ensures) at c.and_then.ensures
