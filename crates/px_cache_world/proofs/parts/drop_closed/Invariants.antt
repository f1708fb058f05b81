use Rattle.std.proofs.Common.{◌≡◌, drop}
use Rattle.px_cache_world.specs.Sampler.{store_seen}
use Rattle.px_cache_world.proofs.parts.drop_closed.Given as goal

-- what the effects that are left close is dropped from what is left
abbrev pub invariant-loop-effect : goal.invariant-loop-effect
invariant-loop-effect l = store_seen (drop l.effect-index l.effects) l.store ≡ store_seen l.effects l.fn.store
