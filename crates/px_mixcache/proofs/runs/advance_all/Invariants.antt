use Rattle.std.proofs.Common.{◌≡◌, ℕ, ◌<◌, ◌≤◌}
use Rattle.px_mixcache.specs.Cache.{run_at, run_advanced}
use Rattle.px_mixcache.proofs.runs.advance_all.Given as goal

abbrev pub invariant-loop-c : goal.invariant-loop-c
invariant-loop-c l = record {
  done : (c : ℕ) → c < l.c → run_at l.runs c ≡ run_advanced l.frames (run_at l.fn.runs c);
  rest : (c : ℕ) → l.c ≤ c → run_at l.runs c ≡ run_at l.fn.runs c;
}
