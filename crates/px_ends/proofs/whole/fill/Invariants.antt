use Rattle.std.proofs.Common.{length, ◌-◌, ◌≡◌, ◌≤◌, take}
use Rattle.px_ends.specs.Visible.{before_taking}
use Rattle.px_ends.proofs.whole.fill.Given as goal

-- what is filled so far has departed, and no read has failed
abbrev pub invariant-loop-filled : goal.invariant-loop-filled
invariant-loop-filled g l = record {
  departed : g.S.Source.left l.fn.source ≡ before_taking (take l.filled l.buffer) (g.S.Source.left l.source);
  sound : g.S.Source.faults l.source ≡ g.S.Source.faults l.fn.source;
  fit : l.filled ≤ length l.buffer;
}

abbrev pub decreases-loop-filled : goal.decreases-loop-filled
decreases-loop-filled g l = length l.initial.buffer - l.filled
