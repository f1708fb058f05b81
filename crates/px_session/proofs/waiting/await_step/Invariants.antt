use Rattle.std.proofs.Common.{◌≡◌, ℕ, List, ◌++◌, ◌+◌, ◌-◌, ◌^◌, length}
use Rattle.px_ends.specs.Visible.{before_taking}
use Rattle.px_session.proofs.waiting.await_step.Given as goal

-- the bytes taken so far are held behind those from before, and no read has failed
abbrev pub invariant-loop-read : goal.invariant-loop-read
invariant-loop-read g l = record {
  taken : (taken : List ℕ) × (g.S.Source.left l.fn.input ≡ before_taking taken (g.S.Source.left l.input)) × (l.held ≡ l.fn.held ++ taken);
  sound : g.S.Source.faults l.input ≡ g.S.Source.faults l.fn.input;
}

-- how many bytes a session may still have, and the one that may follow it
abbrev pub decreases-loop-read : goal.decreases-loop-read
decreases-loop-read g l = (2 ^ 40 + 1) - (l.at + length l.held)
