use Rattle.std.proofs.Common.{◌≡◌, sym, subst, IfSome}
use Rattle.px_state.specs.Out.{unsent}
use Rattle.px_core.specs.Consistency.{IsConsistent}
use Rattle.px_state.specs.Tables.{state_of, core_of}
use Rattle.px_core.proofs.BackLaws.{back_consistent, whole_back}
use Rattle.px_core.proofs.StepLaws.{out_consistent}
use Rattle.px_core.proofs.machine.Core.sent.Goals as goal

pub invariant_of-self : goal.invariant_of-self
invariant_of-self g c = subst (IsConsistent g.P.Parcel.spec_of) (λ i. (sym c.hand_out.ensures.after i).state) (out_consistent g.P.Parcel.spec_of (state_of c.self.inside.tables) c.args.sink c.self.invariant)

pub returns-clause-consistent : goal.returns-clause-consistent
returns-clause-consistent g c = back_consistent g.P.Parcel.spec_of (core_of c.self.inside.tables) (core_of c.hand_out.new.tables) c.args.sink c.hand_out.result c.self.invariant c.hand_out.ensures.next c.hand_out.ensures.after

pub returns-clause-back : goal.returns-clause-back
returns-clause-back g c =
    subst (λ core. IfSome c.hand_out.result (λ m. unsent c.args.sink m (core_of c.hand_out.new.tables) ≡ core)) c.self.view_is
    (whole_back g.P.Parcel.spec_of (core_of c.self.inside.tables) (core_of c.hand_out.new.tables) c.args.sink c.hand_out.result c.self.invariant c.hand_out.ensures.next c.hand_out.ensures.after)
