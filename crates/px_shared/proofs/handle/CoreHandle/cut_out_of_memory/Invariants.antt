use Rattle.std.proofs.Common.{◌≡◌}
use Rattle.px_shared.proofs.handle.CoreHandle.cut_out_of_memory.Given as goal

abbrev pub invariant-loop : goal.invariant-loop
invariant-loop g l = l.self.seat.parts ≡ l.fn.self.seat.parts
