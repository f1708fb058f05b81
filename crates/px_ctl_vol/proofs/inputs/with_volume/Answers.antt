use Rattle.std.proofs.Common.{◌∙◌, Ok, subst}
use Rattle.px_flat.specs.FlatVolume.{FlatGroup, with_input_volume}
use Rattle.px_outcome.specs.Handled.{HandledAs}
use Rattle.px_ctl_vol.specs.Factors.{regrouped}
use Rattle.px_ctl_vol.proofs.inputs.with_volume.Goals as goal

pub returns : goal.returns
returns g c =
    let copied = c.in_ok-changed.ensures in
    let volume = c.asked.ensures in
    let group = c.set_input.ensures ∙ (λ i. with_input_volume c.args.x.now.index (volume i) (copied i)) in
    subst (λ (group : FlatGroup). HandledAs c.regrouped.result (Ok (regrouped {P = g.row.P.Denot} c.args.x.now.sink group c.args.inputs.now c.args.tag)))
    group c.regrouped.ensures
