use Rattle.std.proofs.Common.{◌≡◌, map, take}
use Rattle.px_core_cell.specs.Cell.{ends_of}
use Rattle.px_core_cell.specs.History.{fresh_ends}
use Rattle.tests_core_cell.proofs.tests.scene.all_sides.Given as goal

-- the ends so far are those of the sinks so far
abbrev pub invariant-loop-sink : goal.invariant-loop-sink
invariant-loop-sink l = map ends_of l.ends.items ≡ map fresh_ends (take l.sink-index l.sinks)
