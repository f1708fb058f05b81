use Rattle.px_monitor.specs.Monitor.{new_monitor}
use Rattle.px_monitor.proofs.Sieving.{run-admits, run-world, run-shown}
use Rattle.px_monitor.proofs.law.monitors_stand_before_a_world.Goals as goal

pub returns-clause-admitted : goal.returns-clause-admitted
returns-clause-admitted c = λ header events all. run-admits (new_monitor header) events all

pub returns-clause-world : goal.returns-clause-world
returns-clause-world c = λ header events. run-world (new_monitor header) events

pub returns-clause-effects : goal.returns-clause-effects
returns-clause-effects c = λ header events. run-shown (new_monitor header) events
