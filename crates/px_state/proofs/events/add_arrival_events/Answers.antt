use Rattle.std.proofs.Common.{◌∷◌, sym, ap, ◌∙◌}
use Rattle.px_outcome.specs.declared.change.Change.TheVariants.{Arrives}
use Rattle.px_subscribe.specs.Scene.{nobody_hears}
use Rattle.px_state.specs.Tables.{state_of}
use Rattle.px_state.proofs.AddedLaws.{deaf_added, arrival_added, scene_shown, arrived_shown}
use Rattle.px_state.proofs.events.add_arrival_events.Goals as goal

pub returns-then-nobody_hears : goal.returns-then-nobody_hears
returns-then-nobody_hears g c = λ m.
    deaf_added _ c.args.effects.now (state_of c.args.tables.now) (Arrives c.args.input m ∷ c.args.later.now)
    (ap (λ clients. nobody_hears clients c.args.later.now) (sym c.clients.ensures) ∙ sym c.nobody_hears.ensures ∙ c.if-nobody_hears.true)

pub notified_arrived-requires-clause-before : goal.notified_arrived-requires-clause-before
notified_arrived-requires-clause-before g c = scene_shown _ (state_of c.args.tables.now) c.in_ok-scene.scene c.in_ok-scene.ensures c.requires.before

pub notified_arrived-requires-clause-after : goal.notified_arrived-requires-clause-after
notified_arrived-requires-clause-after g c = arrived_shown _ (state_of c.args.tables.now) c.args.input c.args.later.now c.in_ok-scene.scene c.in_ok-scene.ensures c.requires.after

pub returns : goal.returns
returns g c =
    arrival_added _ c.args.effects.now c.send_all.new.effects (state_of c.args.tables.now) c.args.input c.args.later.now c.as_slice-sinks.result.now c.in_ok-scene.scene c.deref.result.now
    c.as_slice-sinks.ensures c.in_ok-scene.ensures (c.deref.ensures.value ∙ c.in_ok-notified.ensures) c.in_ok-send_all.ensures
