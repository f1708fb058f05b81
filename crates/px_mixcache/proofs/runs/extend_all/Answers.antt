use Rattle.std.proofs.Common.{◌≡◌, ◌<◌, length, arith, ap, ◌∙◌}
use Rattle.px_mixcache.specs.Run.{KeptRun}
use Rattle.px_mixcache.specs.Cache.{run_at, run_extended}
use Rattle.px_mixcache.proofs.Each.{each_run, later_runs, there}
use Rattle.px_mixcache.proofs.runs.extend_all.Goals as goal

pub loop-c-preserved : goal.loop-c-preserved
loop-c-preserved c =
    let i = c.loop-c.c in
    let room : i < length c.loop-c.runs = omega (arith, c.loop-c.auto.runs, c.loop-c-test.true) in
    let made : c.extend.new.self ≡ run_extended c.args.to (run_at c.args.runs.now i) =
    c.extend.ensures ∙ ap (run_extended c.args.to) (there c.loop-c.runs i c.index-runs-c.result room ∙ c.loop-c.invariant.rest i (omega arith)) in record {
      done = each_run (λ k (r : KeptRun). r ≡ run_extended c.args.to (run_at c.args.runs.now k)) c.loop-c.runs i c.extend.new.self room c.loop-c.invariant.done made;
      rest = later_runs c.loop-c.runs c.args.runs.now i c.extend.new.self c.loop-c.invariant.rest;
    }
