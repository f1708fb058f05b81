use Rattle.std.proofs.Common.{◌≡◌, Some, None, sym, subst}
use Rattle.std.specs.List.{position}
use Rattle.px_sieve.specs.Sieve.{heard_of, heard_by, unheard}
use Rattle.px_sieve.specs.Standing.{AreHeard, is_line}
use Rattle.px_sieve.proofs.Lines.{heard-there, heard-new}
use Rattle.px_sieve.proofs.sieve.hear_on.Goals as goal

pub returns-in_ok-hear-in-Some-clause-heard : goal.returns-in_ok-hear-in-Some-clause-heard
returns-in_ok-hear-in-Some-clause-heard g c = λ heard all.
    let found : position (is_line c.args.conn) c.args.lines.now.items ≡ Some c.in-Some.place = rw (← c.as_slice.ensures.value) (sym c.in-Some.ensures) in
    heard-there c.args.conn c.args.lines.now.items heard all c.in-Some.place c.index_mut.result.now c.index_mut.ensures.value found c.args.bytes.now c.hear.new.line
    c.in_ok-hear-in-Some.ensures.hears

pub returns-in_ok-push-in-None-clause-heard : goal.returns-in_ok-push-in-None-clause-heard
returns-in_ok-push-in-None-clause-heard g c = λ heard all.
    let none : position (is_line c.args.conn) c.args.lines.now.items ≡ None = rw (← c.as_slice.ensures.value) (sym c.in-None.ensures) in
    subst (λ l. AreHeard l (heard_by (heard_of heard c.args.conn) c.args.conn c.args.bytes.now heard)) (sym c.in_ok-push-in-None.ensures.items)
    (heard-new c.args.conn c.args.lines.now.items heard all c.args.bytes.now c.hear-in-None.new.line none
    (c.in_ok-hear-in-None.ensures.hears (unheard c.args.conn) c.unheard-line.ensures.hears))
