use Rattle.px_world.proofs.Stopping.{stop-unswept, stop-silent}
use Rattle.px_world.proofs.Sweeping.{all-swept}
use Rattle.px_world.proofs.law.stops_are_events.Goals as goal

pub returns-clause-world : goal.returns-clause-world
returns-clause-world c = stop-unswept

pub returns-clause-effects : goal.returns-clause-effects
returns-clause-effects c = stop-silent

pub returns-clause-swept : goal.returns-clause-swept
returns-clause-swept c = all-swept
