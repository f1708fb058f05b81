use Rattle.px_core.specs.Step.{sweep}
use Rattle.px_state.specs.Tables.{state_of}
use Rattle.px_core.proofs.CoreLaws.{step_consistent}
use Rattle.px_core.proofs.ShownLaws.{step_shown}
use Rattle.px_core.proofs.machine.Core.sweep.Goals as goal

pub invariant_of-self : goal.invariant_of-self
invariant_of-self g c = step_consistent g.P.Parcel.spec_of c.sweep_away.result (state_of c.self.inside.tables) (state_of c.sweep_away.new.tables) sweep tt c.sweep_away.ensures.after c.sweep_away.ensures.err c.self.invariant

pub sweep_away-requires-clause-after : goal.sweep_away-requires-clause-after
sweep_away-requires-clause-after g c = step_shown g.P.Parcel.spec_of (state_of c.self.inside.tables) sweep tt c.self.invariant
