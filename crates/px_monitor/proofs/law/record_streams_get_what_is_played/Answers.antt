use Rattle.px_monitor.specs.Monitor.{new_monitor}
use Rattle.px_monitor.proofs.Payloads.{run-due}
use Rattle.px_monitor.proofs.Sized.{all-sized}
use Rattle.px_monitor.proofs.law.record_streams_get_what_is_played.Goals as goal

pub returns : goal.returns
returns c = λ header events output h. run-due (new_monitor header) events output (all-sized header events h)
