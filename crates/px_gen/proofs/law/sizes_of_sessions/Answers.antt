use Rattle.px_gen.proofs.Counted.{bare_size, event_count}
use Rattle.px_gen.proofs.law.sizes_of_sessions.Goals as goal

pub returns-clause-bytes : goal.returns-clause-bytes
returns-clause-bytes c = bare_size

pub returns-clause-events : goal.returns-clause-events
returns-clause-events c = event_count
