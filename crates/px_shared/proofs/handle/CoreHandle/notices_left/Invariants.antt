use Rattle.std.proofs.Common.{◌≡◌}
use Rattle.px_shared.proofs.handle.CoreHandle.notices_left.Given as goal

abbrev pub invariant-loop : goal.invariant-loop
invariant-loop g l = l.self.seat.parts ≡ l.fn.self.seat.parts
