use Rattle.std.proofs.Common.{◌≡◌, drop}
use Rattle.px_cache_world.specs.Answered.{created_by}
use Rattle.px_cache_world.proofs.answered.created_by.Given as goal

-- none of the effects before is an answer
abbrev pub invariant-loop-effect : goal.invariant-loop-effect
invariant-loop-effect l = created_by (drop l.effect-index l.effects) ≡ created_by l.effects
