use Rattle.std.proofs.Common.{◌≡◌, ◌++◌, All, length, map}
use Rattle.px_frame.specs.Frame.{IsBody}
use Rattle.px_frame.specs.declared.frame.Frame.{Frame}
use Rattle.px_model.specs.Stream.{Stream}
use Rattle.px_core.specs.Step.{frame, stepped_by, effects_by}
use Rattle.px_world.proofs.stepping.take_frames.Given as goal

-- the frames so far and those that are left are all of them
abbrev pub invariant-loop-frame : goal.invariant-loop-frame
invariant-loop-frame l = record {
  core : stepped_by Stream.spec l.core.state (map (λ (f : Frame). frame l.conn f) l.frames.items) ≡ stepped_by Stream.spec l.fn.core.state (map (λ (f : Frame). frame l.conn f) l.fn.frames.items);
  effects : l.effects ++ effects_by Stream.spec l.core.state (map (λ (f : Frame). frame l.conn f) l.frames.items) ≡ l.fn.effects ++ effects_by Stream.spec l.fn.core.state (map (λ (f : Frame). frame l.conn f) l.fn.frames.items);
  bodies : All (λ (f : Frame). IsBody f.body) l.frames.items;
}

abbrev pub decreases-loop-frame : goal.decreases-loop-frame
decreases-loop-frame l = length l.frames.items
