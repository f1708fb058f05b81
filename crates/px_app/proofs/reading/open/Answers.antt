use Rattle.std.proofs.Common.{refl}
use Rattle.px_app.specs.Ends.{ends_of}
use Rattle.px_app.proofs.PlayLaws.{new_opened, new_unopened}
use Rattle.px_app.proofs.reading.open.Goals as goal

pub returns-in-Ok-next_header-clause-opened : goal.returns-in-Ok-next_header-clause-opened
returns-in-Ok-next_header-clause-opened g c = λ held written now.
    new_opened c.in-Ok.reader c.next_header.new.reader c.in-Ok-next_header.header
    (ends_of (g.S.Source.left c.args.input.now) (g.S.Source.faults c.args.input.now) held written) (ends_of (g.S.Source.left c.next_header.new.input) (g.S.Source.faults c.next_header.new.input) held now)
    c.in-Ok.ensures c.in-Ok-next_header.ensures.takes refl

pub returns-in-Err-clause-opened : goal.returns-in-Err-clause-opened
returns-in-Err-clause-opened g c = λ held written now.
    rw c.unread.ensures (new_unopened c.in-Ok.reader c.next_header.new.reader c.in-Err.e
    (ends_of (g.S.Source.left c.args.input.now) (g.S.Source.faults c.args.input.now) held written) (ends_of (g.S.Source.left c.next_header.new.input) (g.S.Source.faults c.next_header.new.input) held now)
    c.in-Ok.ensures c.in-Err.ensures.takes refl)
