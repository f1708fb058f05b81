use Rattle.std.proofs.Common.{◌≡◌, ℕ, ◌<◌, ◌≤◌, get_or, pos, All, w32, SFits}
use Rattle.px_kept_mix.proofs.kept.silence.Given as goal

abbrev pub invariant-loop-i : goal.invariant-loop-i
invariant-loop-i l = record {
  silent : (i : ℕ) → l.from ≤ i → i < l.i → get_or l.values i (pos 0) ≡ pos 0;
  before : (i : ℕ) → i < l.from → get_or l.values i (pos 0) ≡ get_or l.fn.values i (pos 0);
  after : (i : ℕ) → l.to ≤ i → get_or l.values i (pos 0) ≡ get_or l.fn.values i (pos 0);
  fit : All (SFits w32) l.fn.values → All (SFits w32) l.values;
}
