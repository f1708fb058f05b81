use Rattle.std.proofs.Common.{None}
use Rattle.px_core.specs.Step.{close}
use Rattle.px_state.specs.Tables.{state_of}
use Rattle.px_core.proofs.CoreLaws.{done_consistent}
use Rattle.px_core.proofs.machine.Core.close.Goals as goal

pub invariant_of-self : goal.invariant_of-self
invariant_of-self g c = done_consistent g.P.Parcel.spec_of (state_of c.self.inside.tables) (state_of c.end.new.tables) (close c.args.conn) tt (c.end.ensures.after None 0 0) c.self.invariant
