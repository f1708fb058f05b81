use Rattle.std.proofs.Common.{◌≡◌, replicate, []}
use Rattle.px_mixcache.proofs.runs.empty_runs.Given as goal

abbrev pub invariant-loop : goal.invariant-loop
invariant-loop l = l.runs.items ≡ replicate l.counter (record { depth = l.depth; sums = [] })
