use Rattle.std.proofs.Common.{sym, subst}
use Rattle.px_sieve.specs.Standing.{ArePossible}
use Rattle.px_sieve.proofs.Lines.{possible-filtered, forget-stands}
use Rattle.px_sieve.proofs.sieve.Sieve.forget.Goals as goal

pub invariant_of-self : goal.invariant_of-self
invariant_of-self c = subst ArePossible (sym c.forget_on.ensures) (possible-filtered c.args.conn c.self.inside.lines.items c.self.invariant)

pub returns : goal.returns
returns c = λ s stands.
    forget-stands c.args.self.now c.self.inside.own.items c.self.inside.lines.items c.forget_on.new.lines.items c.self.inside.asked c.asked_still-self-inside.result s c.args.conn
    c.self.view_is stands c.forget_on.ensures c.asked_still-self-inside.ensures
