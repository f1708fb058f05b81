use Rattle.std.proofs.Common.{◌≡◌, subst, IfOk}
use Rattle.px_subscribe.specs.Scene.{scene_after}
use Rattle.px_subscribe.specs.Moments.{notified_since, notified_between}
use Rattle.px_subscribe.proofs.scene.Scene.arrive_and_notify.Goals as goal

pub returns : goal.returns
returns g c =
    subst (λ s. IfOk c.make_and_notify.result (λ notified. notified.items ≡ notified_between c.args.sinks.now c.args.clients_made c.args.self.now (scene_after s c.args.later.now))) c.arrive.ensures
    (subst (λ b. IfOk c.make_and_notify.result (λ notified. notified.items ≡ notified_since c.args.sinks.now c.args.clients_made b (scene_after c.arrive.new.self c.args.later.now))) c.in_ok-before.ensures.value
    c.make_and_notify.ensures)
