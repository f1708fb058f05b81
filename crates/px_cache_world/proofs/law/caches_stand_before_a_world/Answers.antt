use Rattle.px_cache_world.specs.Sampler.{new_sampler}
use Rattle.px_cache_world.proofs.Sieving.{all-admitted, all-world, run-shown}
use Rattle.px_cache_world.proofs.law.caches_stand_before_a_world.Goals as goal

pub returns-clause-admitted : goal.returns-clause-admitted
returns-clause-admitted c = all-admitted

pub returns-clause-world : goal.returns-clause-world
returns-clause-world c = all-world

pub returns-clause-effects : goal.returns-clause-effects
returns-clause-effects c = λ header events. run-shown (new_sampler header) events
