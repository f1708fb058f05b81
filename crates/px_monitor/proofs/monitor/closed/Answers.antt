use Rattle.std.proofs.Common.{ap, ◌∙◌}
use Rattle.px_session.specs.declared.event.Event.TheVariants.{Close}
use Rattle.px_monitor.specs.Monitor.{after_items, alone, other_skips}
use Rattle.px_monitor.specs.Records.{without_conn}
use Rattle.px_monitor.proofs.Events.{close-done}
use Rattle.px_monitor.proofs.monitor.closed.Goals as goal

pub returns-clause-done : goal.returns-clause-done
returns-clause-done c = λ m stands.
    let h = c.in_ok-outcome.ensures.done m stands in
    close-done m c.args.conn c.pass_event.new.parts
    (record { world = c.pass_event.new.parts.world; sieve = c.forget.new.self; skips = c.drop_skip.new.skips; records = c.forget-2.new.self })
    c.in_ok-outcome.outcome c.quiet.result h c.quiet.ensures
    (record {
      world = h.stands.world;
      sieve = c.forget.ensures (after_items m (alone (Close c.args.conn))).sieve h.stands.sieve;
      skips = c.drop_skip.ensures ∙ ap (other_skips c.args.conn) h.stands.skips;
      records = c.forget-2.ensures ∙ ap (without_conn c.args.conn) h.stands.records;
    })
