use Rattle.std.proofs.Common.{◌≡◌, ℕ, ◌+◌, ◌*◌, ◌<◌, ◌≤◌, get_or, pos, All, w32, SFits}
use Rattle.px_kept_mix.proofs.kept.close_up.Given as goal

abbrev pub invariant-loop-c : goal.invariant-loop-c
invariant-loop-c l = record {
  moved : (b j : ℕ) → b < l.c → j < l.given → get_or l.values (b * l.given + j) (pos 0) ≡ get_or l.fn.values (b * l.run + j) (pos 0);
  rest : (i : ℕ) → l.c * l.given ≤ i → get_or l.values i (pos 0) ≡ get_or l.fn.values i (pos 0);
  fit : All (SFits w32) l.fn.values → All (SFits w32) l.values;
}
