use Rattle.px_monitor.proofs.Joining.{joined}
use Rattle.px_monitor.proofs.fragments.fragments_join.Goals as goal

pub returns : goal.returns
returns c = joined
