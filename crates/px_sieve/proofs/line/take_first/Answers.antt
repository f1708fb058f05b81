use Rattle.std.proofs.Common.{arith, length, ap}
use Rattle.px_sieve.proofs.line.take_first.Goals as goal

pub returns-in-Some-clause-fewer : goal.returns-in-Some-clause-fewer
returns-in-Some-clause-fewer c = omega (arith, ap length c.in-Some.ensures.items)
