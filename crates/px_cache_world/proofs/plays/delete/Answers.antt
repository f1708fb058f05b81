use Rattle.px_scache.specs.Play.{delete_frame}
use Rattle.px_cache_world.specs.Answered.{NO_STREAM}
use Rattle.px_cache_world.proofs.Partly.{own-shown, own-world}
use Rattle.px_cache_world.proofs.plays.delete.Goals as goal

pub returns-clause-effects : goal.returns-clause-effects
returns-clause-effects c = λ w stands.
    own-shown w c.in_ok-frame.frame (delete_frame NO_STREAM c.args.stream) c.in_ok-frame.ensures c.in_ok-effects.effects (c.in_ok-effects.ensures.effects w stands)

pub returns-clause-after : goal.returns-clause-after
returns-clause-after c = λ w stands.
    own-world w c.in_ok-frame.frame (delete_frame NO_STREAM c.args.stream) c.in_ok-frame.ensures c.give_own.new.world (c.in_ok-effects.ensures.after w stands)
