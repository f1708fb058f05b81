use Rattle.px_subscribe.proofs.Deaf.{deaf_changes, deaf_joined}
use Rattle.px_subscribe.proofs.quiet.the_deaf_are_not_notified.Goals as goal

pub returns-clause-changes : goal.returns-clause-changes
returns-clause-changes g c = λ sinks clients_made s changes e. deaf_changes sinks clients_made s changes e

pub returns-clause-joined : goal.returns-clause-joined
returns-clause-joined g c = λ sinks clients_made s conn client e. deaf_joined sinks clients_made s conn client e
