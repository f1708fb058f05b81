use Rattle.std.proofs.Common.{◌≡◌, ◌++◌, All, drop}
use Rattle.px_outcome.specs.Target.{IsTarget}
use Rattle.px_sinks.specs.Sinks.{targets_from}
use Rattle.px_sinks.proofs.targets.targets_in.Given as goal

-- the sinks so far and those that are left are all of them
abbrev pub invariant-loop-sink : goal.invariant-loop-sink
invariant-loop-sink l = (l.made.items ++ targets_from l.index (drop l.sink-index l.sinks) ≡ targets_from 0 l.sinks) × All IsTarget l.made.items × (l.index ≡ l.sink-index)
