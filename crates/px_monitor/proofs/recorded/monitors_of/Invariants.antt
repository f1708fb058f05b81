use Rattle.std.proofs.Common.{◌≡◌, ◌++◌, All, drop, map}
use Rattle.px_outcome.specs.Target.{IsTarget}
use Rattle.px_monitor.specs.Records.{monitor_of}
use Rattle.px_monitor.proofs.recorded.monitors_of.Given as goal

-- the monitors so far and those of the sinks that are left are all of them
abbrev pub invariant-loop-sink : goal.invariant-loop-sink
invariant-loop-sink l = (l.sources.items ++ map monitor_of (drop l.sink-index l.sinks) ≡ map monitor_of l.sinks) × All IsTarget l.sources.items
