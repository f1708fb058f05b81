use Rattle.std.proofs.Common.{◌≡◌}
use Rattle.bench.proofs.queue.played.Given as goal

abbrev pub invariant-loop : goal.invariant-loop
invariant-loop l = l.queue.frame ≡ 4
