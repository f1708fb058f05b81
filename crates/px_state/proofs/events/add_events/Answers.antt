use Rattle.std.proofs.Common.{sym, ap, ◌∙◌}
use Rattle.px_subscribe.specs.Scene.{nobody_hears}
use Rattle.px_state.specs.Tables.{state_of}
use Rattle.px_state.proofs.AddedLaws.{quiet_added, deaf_added, changes_added, scene_shown, changes_shown}
use Rattle.px_state.proofs.events.add_events.Goals as goal

pub returns-then-are_quiet : goal.returns-then-are_quiet
returns-then-are_quiet g c = quiet_added _ c.args.effects.now (state_of c.args.tables.now) c.args.changes.now (sym c.are_quiet.ensures ∙ c.if-are_quiet.true)

pub returns-then-nobody_hears : goal.returns-then-nobody_hears
returns-then-nobody_hears g c =
    deaf_added _ c.args.effects.now (state_of c.args.tables.now) c.args.changes.now
    (ap (λ clients. nobody_hears clients c.args.changes.now) (sym c.clients.ensures) ∙ sym c.nobody_hears.ensures ∙ c.if-nobody_hears.true)

pub notified_of-requires-clause-before : goal.notified_of-requires-clause-before
notified_of-requires-clause-before g c = scene_shown _ (state_of c.args.tables.now) c.in_ok-scene.scene c.in_ok-scene.ensures c.requires.before

pub notified_of-requires-clause-after : goal.notified_of-requires-clause-after
notified_of-requires-clause-after g c = changes_shown _ (state_of c.args.tables.now) c.args.changes.now c.in_ok-scene.scene c.in_ok-scene.ensures c.requires.after

pub returns : goal.returns
returns g c =
    changes_added _ c.args.effects.now c.send_all.new.effects (state_of c.args.tables.now) c.args.changes.now c.as_slice.result.now c.in_ok-scene.scene c.deref.result.now
    c.as_slice.ensures c.in_ok-scene.ensures (c.deref.ensures.value ∙ c.in_ok-notified.ensures) c.in_ok-send_all.ensures
