use Rattle.std.proofs.Common.{◌≡◌, ◌≤◌, length}
use Rattle.px_queue.specs.Plain.{frames_up_to}
use Rattle.px_queue.proofs.queue.FrameQueue.plain_frames.Given as goal

abbrev pub invariant-loop-k : goal.invariant-loop-k
invariant-loop-k l = (l.frames.items ≡ frames_up_to l.self.queue l.k) × (l.k ≤ length l.self.queue.held)
