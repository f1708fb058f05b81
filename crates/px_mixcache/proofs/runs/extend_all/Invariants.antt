use Rattle.std.proofs.Common.{◌≡◌, ℕ, ◌<◌, ◌≤◌}
use Rattle.px_mixcache.specs.Cache.{run_at, run_extended}
use Rattle.px_mixcache.proofs.runs.extend_all.Given as goal

abbrev pub invariant-loop-c : goal.invariant-loop-c
invariant-loop-c l = record {
  done : (c : ℕ) → c < l.c → run_at l.runs c ≡ run_extended l.to (run_at l.fn.runs c);
  rest : (c : ℕ) → l.c ≤ c → run_at l.runs c ≡ run_at l.fn.runs c;
}
