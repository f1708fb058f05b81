use Rattle.std.proofs.Common.{sym, ap, ◌∙◌}
use Rattle.px_subscribe.specs.Scene.{are_deaf}
use Rattle.px_state.specs.Tables.{state_of}
use Rattle.px_state.proofs.AddedLaws.{deaf_joined, join_added, scene_shown}
use Rattle.px_state.proofs.events.joined_events.Goals as goal

pub returns-then-are_deaf : goal.returns-then-are_deaf
returns-then-are_deaf g c =
    deaf_joined _ (state_of c.args.tables.now) c.args.conn c.new.result c.new.ensures
    (ap (λ clients. are_deaf clients) (sym c.clients.ensures) ∙ sym c.are_deaf.ensures ∙ c.if-are_deaf.true)

pub notified_joined-requires-clause-shown : goal.notified_joined-requires-clause-shown
notified_joined-requires-clause-shown g c = scene_shown _ (state_of c.args.tables.now) c.in_ok-scene.scene c.in_ok-scene.ensures c.requires.shown

pub returns : goal.returns
returns g c =
    join_added _ c.new-effects.result c.send_all.new.effects (state_of c.args.tables.now) c.args.conn c.as_slice.result.now c.in_ok-scene.scene c.deref.result.now
    c.new-effects.ensures c.as_slice.ensures c.in_ok-scene.ensures (c.deref.ensures.value ∙ c.in_ok-notified.ensures) c.in_ok-send_all.ensures
