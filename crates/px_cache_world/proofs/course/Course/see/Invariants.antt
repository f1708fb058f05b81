use Rattle.std.proofs.Common.{◌≡◌, drop}
use Rattle.px_cache_world.specs.Course.{course_seen}
use Rattle.px_cache_world.proofs.course.Course.see.Given as goal

-- what the effects that are left change of what is left is what all of them change
abbrev pub invariant-loop-effect : goal.invariant-loop-effect
invariant-loop-effect l = course_seen (drop l.effect-index l.effects) l.self ≡ course_seen l.effects l.fn.self
