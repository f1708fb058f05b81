use Rattle.std.proofs.Common.{Some}
use Rattle.px_outcome.specs.declared.sending.Reason.TheVariants.{Cut}
use Rattle.px_core.specs.Step.{cut}
use Rattle.px_state.specs.Tables.{state_of}
use Rattle.px_core.proofs.CoreLaws.{done_consistent}
use Rattle.px_core.proofs.machine.Core.cut.Goals as goal

pub invariant_of-self : goal.invariant_of-self
invariant_of-self g c = done_consistent g.P.Parcel.spec_of (state_of c.self.inside.tables) (state_of c.end.new.tables) (cut c.args.conn) tt (c.end.ensures.after (Some Cut) 0 0) c.self.invariant
