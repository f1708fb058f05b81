use Rattle.px_monitor.proofs.Events.{quiet-is}
use Rattle.px_monitor.proofs.monitor.other.Goals as goal

pub returns-clause-done : goal.returns-clause-done
returns-clause-done c = λ m stands.
    quiet-is m c.args.e c.pass_event.new.parts c.in_ok-outcome.outcome c.quiet.result (c.in_ok-outcome.ensures.done m stands) c.quiet.ensures
