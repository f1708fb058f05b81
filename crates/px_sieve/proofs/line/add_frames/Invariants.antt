use Rattle.std.proofs.Common.{◌≡◌, ◌++◌, All, length, map}
use Rattle.std.specs.List.{AllByRecursion}
use Rattle.px_frame.specs.Frame.{IsBody}
use Rattle.px_frame.specs.declared.frame.Frame.{Frame}
use Rattle.px_sieve.specs.declared.segment.Segment.TheVariants.{Whole}
use Rattle.px_sieve.specs.Standing.{IsPossible}
use Rattle.px_sieve.proofs.line.add_frames.Given as goal

-- the frames added and those that are left are all of them
abbrev pub invariant-loop-frame : goal.invariant-loop-frame
invariant-loop-frame l = record {
  added : l.waiting.items ++ map Whole l.frames.items ≡ l.fn.waiting.items ++ map Whole l.fn.frames.items;
  possible : AllByRecursion IsPossible l.waiting.items;
  bodies : All (λ (f : Frame). IsBody f.body) l.frames.items;
}

abbrev pub decreases-loop-frame : goal.decreases-loop-frame
decreases-loop-frame l = length l.frames.items
