use Rattle.std.proofs.Common.{◌≡◌, ◌++◌, map, drop}
use Rattle.px_header.specs.declared.header.SinkSpec.{SinkSpec}
use Rattle.px_state.proofs.start.names_of.Given as goal

-- the names so far and those of the sinks that are left are all of them
abbrev pub invariant-loop-sink : goal.invariant-loop-sink
invariant-loop-sink l = l.made.items ++ map (λ s. SinkSpec.name s) (drop l.sink-index l.sinks) ≡ map (λ s. SinkSpec.name s) l.sinks
