use Rattle.std.proofs.Common.{refl}
use Rattle.px_subscribe.specs.Moments.{info_lists_of}
use Rattle.px_subscribe.proofs.Unchanged.{none_since, quiet_notifies_nobody}
use Rattle.px_subscribe.proofs.quiet.quiet_changes_notify_nobody.Goals as goal

pub returns-clause-quiet : goal.returns-clause-quiet
returns-clause-quiet g c = λ sinks clients_made s changes e. quiet_notifies_nobody sinks clients_made s changes e

pub returns-clause-same : goal.returns-clause-same
returns-clause-same g c = λ sinks clients_made s. none_since sinks clients_made (info_lists_of sinks s) s refl
