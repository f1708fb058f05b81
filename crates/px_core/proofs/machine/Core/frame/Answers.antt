use Rattle.px_core.specs.Step.{frame}
use Rattle.px_state.specs.Tables.{state_of}
use Rattle.px_core.proofs.CoreLaws.{step_consistent}
use Rattle.px_core.proofs.ShownLaws.{step_shown}
use Rattle.px_core.proofs.machine.Core.frame.Goals as goal

pub invariant_of-self : goal.invariant_of-self
invariant_of-self g c = step_consistent g.P.Parcel.spec_of c.take.result (state_of c.self.inside.tables) (state_of c.take.new.tables) (frame c.args.conn c.args.frame) c.requires c.take.ensures.after c.take.ensures.err c.self.invariant

pub take-requires-clause-after : goal.take-requires-clause-after
take-requires-clause-after g c = step_shown g.P.Parcel.spec_of (state_of c.self.inside.tables) (frame c.args.conn c.args.frame) c.requires c.self.invariant
