use Rattle.std.proofs.Common.{◌≡◌, drop}
use Rattle.px_subscribe.specs.Scene.{scene_after}
use Rattle.px_subscribe.proofs.scene.Scene.make.Given as goal

-- the changes that are left make of the scene so far what all make of it
abbrev pub invariant-loop-change : goal.invariant-loop-change
invariant-loop-change g l = scene_after l.self (drop l.change-index l.changes) ≡ scene_after l.fn.self l.changes
