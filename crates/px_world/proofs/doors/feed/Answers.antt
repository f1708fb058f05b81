use Rattle.std.proofs.Common.{Some, refl, sym, subst}
use Rattle.std.specs.Prelude.{IsSome}
use Rattle.px_world.proofs.Openings.{bytes-answered, bytes-opened}
use Rattle.px_world.proofs.doors.feed.Goals as goal

pub returns-in-Some-clause-steps : goal.returns-in-Some-clause-steps
returns-in-Some-clause-steps g c = λ links opened some.
    bytes-answered c.args.doors.now.entries links c.args.conn opened c.in-Some.decoder.now (sym c.in-Some.ensures.value) c.args.bytes.now c.feed.result some c.feed.ensures.answers

pub returns-in-Some-clause-opened : goal.returns-in-Some-clause-opened
returns-in-Some-clause-opened g c = λ links opened some.
    let writes = c.get_mut.follows.holds c.feed.new.self in
    let updates = writes.3 (subst IsSome c.in-Some.ensures.value refl) in
    bytes-opened c.args.doors.now.entries links c.args.conn opened (c.get_mut.follows.lender c.feed.new.self).entries (Some c.feed.new.self) updates.1 updates.2
    c.in-Some.decoder.now c.feed.new.self (sym c.in-Some.ensures.value) refl c.args.bytes.now c.feed.result some c.feed.ensures.leaves
