use Rattle.px_sieve.specs.Standing.{left_in}
use Rattle.px_monitor.specs.Monitor.{Monitor, hearing, StandsForMonitor}
use Rattle.px_monitor.proofs.Goes.{GoesOn}
use Rattle.px_monitor.proofs.parts.hear.Given as goal

-- the pieces handled and those that wait are all of them
abbrev pub invariant-loop-effects : goal.invariant-loop-effects
invariant-loop-effects l = (m : Monitor) → StandsForMonitor l.fn.parts m → GoesOn l.conn l.effects l.parts (hearing m l.conn l.bytes)

abbrev pub decreases-loop-effects : goal.decreases-loop-effects
decreases-loop-effects l = left_in l.parts.sieve.lines
