use Rattle.std.proofs.Common.{sym, subst}
use Rattle.px_core.specs.Consistency.{IsConsistent}
use Rattle.px_core.proofs.StepLaws.{new_keeps_with}
use Rattle.px_core.proofs.machine.Core.new.Goals as goal

pub invariant_of-result : goal.invariant_of-result
invariant_of-result g c = subst (IsConsistent g.P.Parcel.spec_of) (sym c.in_ok-new_tables.ensures.state) (new_keeps_with g.P.Parcel.spec_of _ c.args.header.now c.requires)
