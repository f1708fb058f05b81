use Rattle.std.proofs.Common.{◌≡◌, ◌++◌, map, drop}
use Rattle.px_header.specs.declared.header.SinkSpec.{SinkSpec}
use Rattle.px_flat.specs.FlatVolume.{new_group}
use Rattle.px_state.proofs.start.groups_for.Given as goal

-- the groups so far and those of the sinks that are left are all of them
abbrev pub invariant-loop-sink : goal.invariant-loop-sink
invariant-loop-sink l = l.made.items ++ map (λ s. new_group (SinkSpec.spec s).channels) (drop l.sink-index l.sinks) ≡ map (λ s. new_group (SinkSpec.spec s).channels) l.sinks
