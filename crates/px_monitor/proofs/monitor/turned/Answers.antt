use Rattle.px_monitor.proofs.Events.{turn-done}
use Rattle.px_monitor.proofs.monitor.turned.Goals as goal

pub returns-clause-done : goal.returns-clause-done
returns-clause-done c = λ m stands.
    turn-done m c.args.sink c.args.frames c.args.take c.pass_event.new.parts c.in_ok-outcome.outcome c.as_slice.result.now c.in_ok-sent.sent (c.in_ok-outcome.ensures.done m stands)
    c.as_slice.ensures c.in_ok-sent.ensures
