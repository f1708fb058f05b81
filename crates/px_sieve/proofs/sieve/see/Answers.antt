use Rattle.std.proofs.Common.{true, false, ap, sym, subst, ◌∙◌}
use Rattle.px_sieve.specs.Standing.{ArePossible, left_in}
use Rattle.px_sieve.proofs.Lines.{seen-in, seen-out, possible-set, left-set}
use Rattle.px_sieve.proofs.sieve.see.Goals as goal

pub returns-then-lets_in-clause-heard : goal.returns-then-lets_in-clause-heard
returns-then-lets_in-clause-heard c = λ heard all.
    seen-in c.args.asked c.in-Sent.conn c.in-Sent.packet c.args.effect.now c.args.lines.now c.set_in.new.lines heard c.in-Sent.is c.if-lets_in.ensures c.set_in.ensures all

pub returns-then-lets_in-clause-possible : goal.returns-then-lets_in-clause-possible
returns-then-lets_in-clause-possible c = subst ArePossible (sym c.set_in.ensures) (possible-set c.in-Sent.conn true c.args.lines.now c.requires)

pub returns-in-Closed-clause-heard : goal.returns-in-Closed-clause-heard
returns-in-Closed-clause-heard c = λ heard all.
    seen-out c.args.asked c.in-Closed.conn c.in-Closed.reason c.in-Closed.fault c.in-Closed.at c.args.effect.now c.args.lines.now c.set_in-in-Closed.new.lines heard c.in-Closed.is
    c.set_in-in-Closed.ensures all

pub returns-in-Closed-clause-possible : goal.returns-in-Closed-clause-possible
returns-in-Closed-clause-possible c = subst ArePossible (sym c.set_in-in-Closed.ensures) (possible-set c.in-Closed.conn false c.args.lines.now c.requires)

pub returns-then-lets_in-clause-left : goal.returns-then-lets_in-clause-left
returns-then-lets_in-clause-left c = ap left_in c.set_in.ensures ∙ left-set c.in-Sent.conn true c.args.lines.now

pub returns-in-Closed-clause-left : goal.returns-in-Closed-clause-left
returns-in-Closed-clause-left c = ap left_in c.set_in-in-Closed.ensures ∙ left-set c.in-Closed.conn false c.args.lines.now
