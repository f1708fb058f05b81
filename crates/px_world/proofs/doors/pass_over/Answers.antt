use Rattle.std.proofs.Common.{◌∷◌, [], Ok, Some, refl, sym, subst, ◌∙◌}
use Rattle.std.specs.Prelude.{IsSome}
use Rattle.px_world.proofs.Openings.{bytes-answered, bytes-opened}
use Rattle.px_world.proofs.Passing.{stays-there, unmoved}
use Rattle.px_world.proofs.doors.pass_over.Goals as goal

pub returns-in-Some-clause-steps : goal.returns-in-Some-clause-steps
returns-in-Some-clause-steps c = λ at links e opened.
    bytes-answered c.args.doors.now.entries links c.args.conn opened c.in-Some.decoder.now (sym c.in-Some.ensures.value) _ (Ok (record { at = at; body = c.args.body.now } ∷ [])) tt
    (λ fed before there. c.pass_over.ensures.answers at fed before e there)

pub returns-in-Some-clause-opened : goal.returns-in-Some-clause-opened
returns-in-Some-clause-opened c = λ at links e opened.
    let writes = c.get_mut.follows.holds c.pass_over.new.self in
    let updates = writes.3 (subst IsSome c.in-Some.ensures.value refl) in
    bytes-opened c.args.doors.now.entries links c.args.conn opened (c.get_mut.follows.lender c.pass_over.new.self).entries (Some c.pass_over.new.self) updates.1 updates.2
    c.in-Some.decoder.now c.pass_over.new.self (sym c.in-Some.ensures.value) refl _ (Ok (record { at = at; body = c.args.body.now } ∷ [])) tt
    (λ fed before there. c.pass_over.ensures.leaves at fed before e there)

pub returns-in-Some-clause-none : goal.returns-in-Some-clause-none
returns-in-Some-clause-none c = λ e.
    let writes = c.get_mut.follows.holds c.pass_over.new.self in
    unmoved c.args.doors.now.entries (c.get_mut.follows.lender c.pass_over.new.self).entries c.args.conn c.in-Some.decoder.now c.pass_over.new.self (sym c.in-Some.ensures.value) writes.0
    (c.pass_over.ensures.new ∙ stays-there _ _ (sym e ∙ c.pass_over.ensures.at))
