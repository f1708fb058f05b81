use Rattle.std.proofs.Common.{ap, ◌∙◌}
use Rattle.px_session.specs.declared.event.Event.TheVariants.{Bytes}
use Rattle.px_state.specs.Effect.{sending}
use Rattle.px_world.specs.Event.{world_after}
use Rattle.px_cache_world.specs.Own.{HIDDEN}
use Rattle.px_cache_world.proofs.Partly.{play-shown, play-world, play-course}
use Rattle.px_cache_world.proofs.plays.play.Goals as goal

pub returns-clause-effects : goal.returns-clause-effects
returns-clause-effects c = λ w stands.
    play-shown w c.args.p.now c.in_ok-frame.frame c.in_ok-effects.effects c.as_slice.result.now c.created_by-created.result c.in_ok-frame.ensures (c.in_ok-effects.ensures.effects w stands) c.as_slice.ensures.items
    c.created_by-created.ensures.value c.args.conn c.args.tag c.in_ok-answer.answer c.append.new.self c.in_ok-more.more c.append-2.new.self
    (c.in_ok-answer.ensures ∙ ap (sending c.args.conn) (c.as_slice-2.ensures ∙ c.in_ok-packet.ensures)) c.in_ok-append.ensures.ok
    (c.in_ok-more.ensures.effects (world_after w (Bytes HIDDEN c.in_ok-frame.frame)) (c.in_ok-effects.ensures.after w stands)) c.in_ok-append-2.ensures.ok

pub returns-clause-after : goal.returns-clause-after
returns-clause-after c = λ w stands.
    play-world w c.args.p.now c.in_ok-frame.frame c.in_ok-effects.effects c.as_slice.result.now c.created_by-created.result c.in_ok-frame.ensures (c.in_ok-effects.ensures.effects w stands) c.as_slice.ensures.items
    c.created_by-created.ensures.value c.args.conn c.args.tag c.follow.new.world
    (c.in_ok-more.ensures.after (world_after w (Bytes HIDDEN c.in_ok-frame.frame)) (c.in_ok-effects.ensures.after w stands))

pub returns-clause-course : goal.returns-clause-course
returns-clause-course c = λ w stands.
    play-course w c.args.p.now c.in_ok-frame.frame c.in_ok-effects.effects c.as_slice.result.now c.created_by-created.result c.in_ok-frame.ensures (c.in_ok-effects.ensures.effects w stands) c.as_slice.ensures.items
    c.created_by-created.ensures.value c.args.course.now c.follow.new.course c.in_ok-more.ensures.course
