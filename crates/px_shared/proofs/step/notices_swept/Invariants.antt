use Rattle.std.proofs.Common.{◌≡◌}
use Rattle.px_shared.proofs.step.notices_swept.Given as goal

abbrev pub invariant-loop : goal.invariant-loop
invariant-loop g l = l.seat.parts ≡ l.fn.seat.parts
