use Rattle.std.proofs.Common.{◌≡◌, take}
use Rattle.px_state.proofs.start.copied_sinks.Given as goal

abbrev pub invariant-loop-sink : goal.invariant-loop-sink
invariant-loop-sink l = l.made.items ≡ take l.sink-index l.sinks
