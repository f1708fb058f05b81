use Rattle.std.proofs.Common.{◌≡◌, ◌++◌, drop}
use Rattle.px_app.specs.Summary.{tally_lines, sink_lines}
use Rattle.px_app.proofs.summary.summary.Given as goal

-- the lines so far, and those of the sinks to come
abbrev pub invariant-loop-i : goal.invariant-loop-i
invariant-loop-i l = l.text ++ sink_lines l.i (drop l.i l.sinks) l.world.mixers ≡ tally_lines l.fn.tally ++ sink_lines 0 l.sinks l.world.mixers
