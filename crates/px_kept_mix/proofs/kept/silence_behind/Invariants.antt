use Rattle.std.proofs.Common.{◌≡◌, ℕ, ◌+◌, ◌*◌, ◌<◌, ◌≤◌, get_or, pos, All, w32, SFits}
use Rattle.px_kept_mix.proofs.kept.silence_behind.Given as goal

abbrev pub invariant-loop-c : goal.invariant-loop-c
invariant-loop-c l = record {
  before : (b j : ℕ) → b < l.runs → j < l.given → get_or l.values (b * l.run + j) (pos 0) ≡ get_or l.fn.values (b * l.run + j) (pos 0);
  silent : (b j : ℕ) → b < l.c → l.given ≤ j → j < l.run → get_or l.values (b * l.run + j) (pos 0) ≡ pos 0;
  fit : All (SFits w32) l.fn.values → All (SFits w32) l.values;
}
