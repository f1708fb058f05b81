use Rattle.px_core.specs.Step.{broken}
use Rattle.px_state.specs.Tables.{state_of}
use Rattle.px_core.proofs.CoreLaws.{step_consistent}
use Rattle.px_core.proofs.machine.Core.broken.Goals as goal

pub invariant_of-self : goal.invariant_of-self
invariant_of-self g c = step_consistent g.P.Parcel.spec_of c.break_off.result (state_of c.self.inside.tables) (state_of c.break_off.new.tables) (broken c.args.conn c.args.fault c.args.at) tt c.break_off.ensures.after c.break_off.ensures.err c.self.invariant
