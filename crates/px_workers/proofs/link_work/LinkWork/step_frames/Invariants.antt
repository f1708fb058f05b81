use Rattle.std.proofs.Common.{◌≡◌, All, length}
use Rattle.px_frame.specs.Frame.{IsBody}
use Rattle.px_workers.proofs.link_work.LinkWork.step_frames.Given as goal

abbrev pub invariant-loop-frame : goal.invariant-loop-frame
invariant-loop-frame g l = g.W.Handle.parts l.self.worker.handle ≡ g.W.Handle.parts l.fn.self.worker.handle × All (λ f. IsBody f.body) l.frames.items

-- how many are left
abbrev pub decreases-loop-frame : goal.decreases-loop-frame
decreases-loop-frame g l = length l.frames.items
