use Rattle.px_core.specs.Step.{connect}
use Rattle.px_state.specs.Tables.{state_of}
use Rattle.px_core.proofs.CoreLaws.{step_consistent}
use Rattle.px_core.proofs.machine.Core.admit.Goals as goal

pub invariant_of-self : goal.invariant_of-self
invariant_of-self g c = step_consistent g.P.Parcel.spec_of c.connect.result (state_of c.self.inside.tables) (state_of c.connect.new.tables) (connect c.args.conn) tt c.connect.ensures.after c.connect.ensures.err c.self.invariant
