use Rattle.std.proofs.Common.{◌≡◌, ◌+◌, ◌^◌, ◌<◌, drop}
use Rattle.px_annals.specs.Size.{at_most, bytes_of_frames}
use Rattle.px_annals.proofs.entry.bytes_of_frames.Given as goal

abbrev pub invariant-loop-frame : goal.invariant-loop-frame
invariant-loop-frame l = (at_most (l.bytes + bytes_of_frames (drop l.frame-index l.frames)) ≡ at_most (bytes_of_frames l.frames)) × (l.bytes < 2 ^ 64)
