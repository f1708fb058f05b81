use Rattle.std.proofs.Common.{◌≡◌}
use Rattle.tests_queue.proofs.tests.again.write_over.Given as goal

abbrev pub invariant-loop : goal.invariant-loop
invariant-loop l = l.queue.frame ≡ 1
