use Rattle.std.proofs.Common.{◌≡◌}
use Rattle.px_sieve.specs.Standing.{left_in}
use Rattle.px_cache_world.specs.Course.{most_due}
use Rattle.px_cache_world.specs.Sampler.{Sampler, StandsForSampler}
use Rattle.px_cache_world.proofs.Settling.{Settles}
use Rattle.px_cache_world.proofs.parts.settle.Given as goal

-- the streams deleted and those that are due are all of them, and no segment is handed out
abbrev pub invariant-loop-stream : goal.invariant-loop-stream
invariant-loop-stream l = ((s : Sampler) → StandsForSampler l.fn.parts s → Settles l.effects l.parts s) × (left_in l.parts.sieve.lines ≡ left_in l.fn.parts.sieve.lines)

abbrev pub decreases-loop-stream : goal.decreases-loop-stream
decreases-loop-stream l = most_due l.parts.course
