use Rattle.px_session.specs.declared.event.Step.TheVariants as step
use Rattle.px_app.proofs.ReadLaws.{took_header}
use Rattle.px_app.proofs.reading.next_header.Goals as goal

pub unreachable-requires : goal.unreachable-requires
unreachable-requires g c =
    took_header c.args.reader.now c.next.new.self (step.Event c.in-Ok-Event.field-0-0) (g.S.Source.left c.args.input.now) (g.S.Source.left c.next.new.input) c.requires
    (rw (c.in-Ok-Event.is, c.in-Ok-Event.field-0-is) at c.next.ensures.takes)

pub unreachable-requires-in-Ok-End : goal.unreachable-requires-in-Ok-End
unreachable-requires-in-Ok-End g c =
    took_header c.args.reader.now c.next.new.self step.End (g.S.Source.left c.args.input.now) (g.S.Source.left c.next.new.input) c.requires
    (rw (c.in-Ok-End.is, c.in-Ok-End.field-0-is) at c.next.ensures.takes)
