use Rattle.px_app.proofs.ReadLaws.{took_no_header}
use Rattle.px_app.proofs.reading.next_event.Goals as goal

pub unreachable-requires : goal.unreachable-requires
unreachable-requires g c =
    took_no_header c.args.reader.now c.next.new.self c.in-Ok-Header.field-0-0 (g.S.Source.left c.args.input.now) (g.S.Source.left c.next.new.input) c.requires
    (rw (c.in-Ok-Header.is, c.in-Ok-Header.field-0-is) at c.next.ensures.takes)
