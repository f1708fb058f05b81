use Rattle.std.proofs.Common.{◌≡◌, ℕ, ◌+◌, ◌*◌, ◌<◌, ◌≤◌}
use Rattle.std.specs.Prelude.{slice_index}
use Rattle.px_mixcache.specs.Run.{RunChanges}
use Rattle.px_mixcache.specs.Cache.{run_at, run_of}
use Rattle.px_mixcache.proofs.runs.change_all.Given as goal

abbrev pub invariant-loop-c : goal.invariant-loop-c
invariant-loop-c g l = record {
  done : (c : ℕ) → c < l.c → ((run_at l.runs c).depth ≡ (run_at l.fn.runs c).depth)
      × RunChanges l.add (run_at l.fn.runs c).sums l.from (run_of l.len l.values c) (slice_index l.factors c) (run_at l.runs c).sums;
  rest : (c : ℕ) → l.c ≤ c → run_at l.runs c ≡ run_at l.fn.runs c;
  ticks : l.steps ≡ l.fn.steps + l.c * l.len;
}
