use Rattle.std.proofs.Common.{arith}
use Rattle.px_queue.proofs.chunks.Chunks.reserve.Goals as goal

pub returns-clause-ok : goal.returns-clause-ok
returns-clause-ok c = (omega (arith, c.in_ok-reserve.ensures.ok), c.in_ok-reserve-2.ensures.ok)
