use Rattle.std.proofs.Common.{◌≡◌}
use Rattle.px_shared.proofs.handle.CoreHandle.post_all.Given as goal

abbrev pub invariant-loop-sink : goal.invariant-loop-sink
invariant-loop-sink g l = l.self.seat.parts ≡ l.fn.self.seat.parts
