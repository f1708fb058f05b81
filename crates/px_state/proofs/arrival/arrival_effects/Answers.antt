use Rattle.std.proofs.Common.{sym, ap, subst, ◌∙◌}
use Rattle.px_ctl_play.specs.Arrival.{Arriving}
use Rattle.px_subscribe.specs.Moments.{AreShown}
use Rattle.px_subscribe.specs.Scene.{Scene, scene_after, scene_arrived}
use Rattle.px_state.specs.Events.{scene_of}
use Rattle.px_state.specs.Tables.{state_of}
use Rattle.px_state.proofs.AddedLaws.{arrival_answered}
use Rattle.px_state.proofs.arrival.arrival_effects.Goals as goal

pub add_arrival_events-requires-clause-after : goal.add_arrival_events-requires-clause-after
add_arrival_events-requires-clause-after g c =
    subst (λ l. AreShown (Scene.inputs (scene_after (scene_arrived c.args.input (scene_of (state_of c.args.tables.now))) l)))
    (sym (c.deref-3.ensures.value ∙ ap (λ (a : Arriving _ _). a.later) c.made.view_is)) c.requires.after

pub returns : goal.returns
returns g c =
    let made = c.made.view_is in
    arrival_answered _ (state_of c.args.tables.now) c.args.input c.args.made.now c.deref.result.now c.deref-2.result.now c.deref-3.result.now c.in_ok-effects.effects c.add_arrival_events.new.effects
    (c.deref.ensures.value ∙ ap (λ (a : Arriving _ _). a.notified) made) (c.deref-2.ensures.value ∙ ap (λ (a : Arriving _ _). a.later) made) (c.deref-3.ensures.value ∙ ap (λ (a : Arriving _ _). a.later) made)
    c.in_ok-effects.ensures c.in_ok-add_arrival_events.ensures
