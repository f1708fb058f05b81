use Rattle.std.proofs.Common.{◌≡◌, ◌-◌, drop}
use Rattle.px_sieve.specs.Segment.{size_of_all}
use Rattle.px_sieve.proofs.rest.left_after.Given as goal

-- what is left, less the frames that are still to come
abbrev pub invariant-loop-frame : goal.invariant-loop-frame
invariant-loop-frame l = l.left - size_of_all (drop l.frame-index l.frames) ≡ l.count - size_of_all l.frames
