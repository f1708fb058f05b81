use Rattle.std.proofs.Common.{◌≡◌, ◌+◌, ◌*◌, ◌-◌, ◌<◌, List, length, take, drop, get_or, arith, ap, subst, ◌∙◌, ℤ}
use Rattle.std.specs.Prelude.{slice_index}
use Rattle.px_mixcache.specs.Run.{KeptRun, RunChanges}
use Rattle.px_mixcache.specs.Cache.{run_at, run_of}
use Rattle.px_mixcache.proofs.Each.{each_run, later_runs, there, run_part, run_long, next_part}
use Rattle.px_mixcache.proofs.runs.change_all.Goals as goal

pub change-requires-clause-inside : goal.change-requires-clause-inside
change-requires-clause-inside g c =
    let i = c.loop-c.c in
    let room : i < length c.loop-c.runs = omega (arith, c.loop-c.auto.runs, c.loop-c-test.true) in
    let read : get_or c.loop-c.runs i c.index-runs-c.result ≡ run_at c.args.runs.now i =
    there c.loop-c.runs i c.index-runs-c.result room ∙ c.loop-c.invariant.rest i (omega arith) in
    let long : length (take (i * c.args.len + c.args.len - i * c.args.len) (drop (i * c.args.len) c.args.values.now)) ≡ c.args.len =
    ap (λ (xs : List ℤ). length xs) (run_part c.args.len c.args.values.now i)
    ∙ run_long c.args.len c.args.values.now i (length c.args.runs.now) c.loop-c-test.true c.requires.whole in
    let size : length (get_or c.loop-c.runs i c.index-runs-c.result).sums ≡ length (run_at c.args.runs.now i).sums = ap (λ (r : KeptRun). length r.sums) read in
    omega (arith, long, size, c.requires.inside i c.loop-c-test.true)

pub change-requires-clause-values : goal.change-requires-clause-values
change-requires-clause-values g c =
    let i = c.loop-c.c in
    let room : i < length c.loop-c.runs = omega (arith, c.loop-c.auto.runs, c.loop-c-test.true) in
    let read : get_or c.loop-c.runs i c.index-runs-c.result ≡ run_at c.args.runs.now i =
    there c.loop-c.runs i c.index-runs-c.result room ∙ c.loop-c.invariant.rest i (omega arith) in
    rw (read, run_part c.args.len c.args.values.now i) (c.requires.values i c.loop-c-test.true)

pub loop-c-preserved : goal.loop-c-preserved
loop-c-preserved g c =
    let i = c.loop-c.c in
    let room : i < length c.loop-c.runs = omega (arith, c.loop-c.auto.runs, c.loop-c-test.true) in
    let read : get_or c.loop-c.runs i c.index-runs-c.result ≡ run_at c.args.runs.now i =
    there c.loop-c.runs i c.index-runs-c.result room ∙ c.loop-c.invariant.rest i (omega arith) in
    let part = run_part c.args.len c.args.values.now i in
    let long : length (take (i * c.args.len + c.args.len - i * c.args.len) (drop (i * c.args.len) c.args.values.now)) ≡ c.args.len =
    ap (λ (xs : List ℤ). length xs) part ∙ run_long c.args.len c.args.values.now i (length c.args.runs.now) c.loop-c-test.true c.requires.whole in
    let deep : c.change.new.self.depth ≡ (run_at c.args.runs.now i).depth = c.change.ensures.depth ∙ ap (λ (r : KeptRun). r.depth) read in
    let changes : RunChanges c.args.add (run_at c.args.runs.now i).sums c.args.from (run_of c.args.len c.args.values.now i) (slice_index c.args.factors.now i) c.change.new.self.sums =
    subst (λ (r : KeptRun). RunChanges c.args.add r.sums c.args.from (run_of c.args.len c.args.values.now i) (slice_index c.args.factors.now i) c.change.new.self.sums) read
    (subst (λ (xs : List ℤ). RunChanges c.args.add (get_or c.loop-c.runs i c.index-runs-c.result).sums c.args.from xs (slice_index c.args.factors.now i) c.change.new.self.sums) part c.change.ensures.sums) in record {
      done = each_run (λ k (r : KeptRun). (r.depth ≡ (run_at c.args.runs.now k).depth)
          × RunChanges c.args.add (run_at c.args.runs.now k).sums c.args.from (run_of c.args.len c.args.values.now k) (slice_index c.args.factors.now k) r.sums)
          c.loop-c.runs i c.change.new.self room c.loop-c.invariant.done (deep, changes);
      rest = later_runs c.loop-c.runs c.args.runs.now i c.change.new.self c.loop-c.invariant.rest;
      ticks = next_part c.args.steps.now c.loop-c.steps c.change.new.steps i c.args.len _ c.loop-c.invariant.ticks c.change.ensures.ticks long;
    }
