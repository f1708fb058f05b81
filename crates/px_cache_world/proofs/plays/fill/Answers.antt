use Rattle.px_session.specs.declared.event.Event.TheVariants.{Bytes}
use Rattle.px_world.specs.Event.{world_after}
use Rattle.px_scache.specs.Play.{data_frame, drain_frame}
use Rattle.px_cache_world.specs.Own.{HIDDEN}
use Rattle.px_cache_world.proofs.Partly.{both-shown, both-world}
use Rattle.px_cache_world.proofs.plays.fill.Goals as goal

pub returns-clause-effects : goal.returns-clause-effects
returns-clause-effects c = λ w input stands.
    both-shown w c.in_ok-data.data (data_frame c.args.stream c.args.p.now.sample) c.in_ok-drain.drain (drain_frame c.args.stream c.args.stream) c.in_ok-data.ensures c.in_ok-drain.ensures
    c.in_ok-effects.effects c.in_ok-more.more c.append.new.self (c.in_ok-effects.ensures.effects w stands)
    (c.in_ok-more.ensures.effects (world_after w (Bytes HIDDEN c.in_ok-data.data)) (c.in_ok-effects.ensures.after w stands)) c.in_ok-append.ensures.ok

pub returns-clause-after : goal.returns-clause-after
returns-clause-after c = λ w input stands.
    both-world w c.in_ok-data.data (data_frame c.args.stream c.args.p.now.sample) c.in_ok-drain.drain (drain_frame c.args.stream c.args.stream) c.in_ok-data.ensures c.in_ok-drain.ensures
    c.give_own-2.new.world (c.in_ok-more.ensures.after (world_after w (Bytes HIDDEN c.in_ok-data.data)) (c.in_ok-effects.ensures.after w stands))
