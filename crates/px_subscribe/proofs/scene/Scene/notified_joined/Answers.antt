use Rattle.std.proofs.Common.{◌≡◌, ◌∙◌, List, subst, IfOk}
use Rattle.px_outcome.specs.declared.sending.Sending.{Sending}
use Rattle.px_subscribe.specs.Scene.{scene_joined}
use Rattle.px_subscribe.specs.Moments.{joined_since}
use Rattle.px_subscribe.proofs.Unchanged.{joined_alone}
use Rattle.px_subscribe.proofs.scene.Scene.notified_joined.Goals as goal

pub returns : goal.returns
returns c =
    subst (λ (all : List Sending). IfOk c.join_and_notify.result (λ notified. notified.items ≡ all)) (joined_alone c.args.sinks.now c.args.clients_made c.args.self c.args.conn c.args.client)
    (subst (λ b. IfOk c.join_and_notify.result (λ notified. notified.items ≡ joined_since c.args.clients_made b (scene_joined c.args.conn c.args.client c.args.self))) (c.deref.ensures.value ∙ c.in_ok-before.ensures.value)
    c.join_and_notify.ensures)
