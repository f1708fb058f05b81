use Rattle.std.proofs.Common.{◌≡◌, Some, refl}
use Rattle.px_monitor.specs.Monitor.{running_on, alone, monitor_refusal}
use Rattle.px_monitor.proofs.Events.{unless-refused, after-alone}
use Rattle.px_monitor.proofs.monitor.pass_event.Goals as goal

pub returns-in-Ok-clause-done : goal.returns-in-Ok-clause-done
returns-in-Ok-clause-done c = λ m stands.
    let done = c.in-Ok.ensures.done m.world stands.world in
    record {
      done = done;
      stands = after-alone m c.args.e c.in-Ok.outcome.effects c.see.new.parts done.effects
          (c.see.ensures.after (running_on m (alone c.args.e))
          (record { world = c.in-Ok.ensures.after m.world stands.world; sieve = stands.sieve; skips = stands.skips; records = stands.records }));
    }

pub returns-in-Err-clause-done : goal.returns-in-Err-clause-done
returns-in-Err-clause-done c = λ m stands.
    unless-refused c.in-Err.fault (monitor_refusal m c.args.e ≡ Some c.in-Err.fault) (λ ne. c.in-Err.ensures.refused m.world c.in-Err.fault stands.world refl ne)
