use Rattle.px_cache_world.specs.Sampler.{new_sampler}
use Rattle.px_cache_world.proofs.Keeping.{run-kept, play-kept, play-written}
use Rattle.px_cache_world.proofs.law.plays_write_what_was_kept.Goals as goal

pub returns-clause-cache : goal.returns-clause-cache
returns-clause-cache c = λ header events. run-kept (new_sampler header) events

pub returns-clause-kept : goal.returns-clause-kept
returns-clause-kept c = play-kept

pub returns-clause-written : goal.returns-clause-written
returns-clause-written c = play-written
