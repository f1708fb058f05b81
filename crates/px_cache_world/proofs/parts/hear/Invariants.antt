use Rattle.px_sieve.specs.Standing.{left_in}
use Rattle.px_cache_world.specs.Sampler.{Sampler, hearing, StandsForSampler}
use Rattle.px_cache_world.proofs.Goes.{GoesOn}
use Rattle.px_cache_world.proofs.parts.hear.Given as goal

-- the pieces handled and those that wait are all of them
abbrev pub invariant-loop-effects : goal.invariant-loop-effects
invariant-loop-effects l = (s : Sampler) → StandsForSampler l.fn.parts s → GoesOn l.conn l.effects l.parts (hearing s l.conn l.bytes)

abbrev pub decreases-loop-effects : goal.decreases-loop-effects
decreases-loop-effects l = left_in l.parts.sieve.lines
