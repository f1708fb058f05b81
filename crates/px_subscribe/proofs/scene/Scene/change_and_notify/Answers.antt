use Rattle.std.proofs.Common.{◌≡◌, subst, IfOk}
use Rattle.px_subscribe.specs.Scene.{scene_after}
use Rattle.px_subscribe.specs.Moments.{notified_since}
use Rattle.px_subscribe.proofs.scene.Scene.change_and_notify.Goals as goal

pub returns : goal.returns
returns g c =
    subst (λ b. IfOk c.make_and_notify.result (λ notified. notified.items ≡ notified_since c.args.sinks.now c.args.clients_made b (scene_after c.args.self.now c.args.changes.now))) c.in_ok-before.ensures.value
    c.make_and_notify.ensures
