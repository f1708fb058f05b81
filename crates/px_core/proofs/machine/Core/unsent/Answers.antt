use Rattle.std.proofs.Common.{sym, subst}
use Rattle.px_core.specs.Consistency.{IsConsistent}
use Rattle.px_state.specs.Out.{Roomy, put_back}
use Rattle.px_core.proofs.machine.Core.unsent.Goals as goal

pub invariant_of-self : goal.invariant_of-self
invariant_of-self g c =
    subst (IsConsistent g.P.Parcel.spec_of) (λ i. (sym c.put_back.ensures.after i).state)
    (subst (λ core. IsConsistent g.P.Parcel.spec_of (put_back c.args.sink c.args.msg (Roomy.state core))) (sym c.self.view_is) c.requires.consistent)
