use Rattle.std.proofs.Common.{◌≡◌, subst, OnOk}
use Rattle.px_subscribe.specs.Scene.{inputs_changed}
use Rattle.px_subscribe.proofs.Parts.{both_parts}
use Rattle.px_subscribe.proofs.scene.Scene.change.Goals as goal

pub returns : goal.returns
returns g c =
    subst (λ s. OnOk c.change_inputs.result (c.change_inputs.new.self ≡ s)) (both_parts c.args.self.now c.args.change.now)
    (subst (λ s. OnOk c.change_inputs.result (c.change_inputs.new.self ≡ inputs_changed s c.args.change.now)) c.in_ok-change_clients.ensures c.change_inputs.ensures)
