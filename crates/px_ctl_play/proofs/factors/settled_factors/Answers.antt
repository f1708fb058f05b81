use Rattle.std.proofs.Common.{◌++◌, List, refl, ap}
use Rattle.px_msg.specs.declared.factors.InputFactors.{InputFactors}
use Rattle.px_outcome.specs.declared.input.Input.{Input}
use Rattle.px_outcome.specs.Input.{settled_on}
use Rattle.px_ctl_play.specs.Factors.{factor_list}
use Rattle.px_ctl_play.proofs.Each.{next_gives, last_gave}
use Rattle.px_ctl_play.proofs.factors.settled_factors.Goals as goal

pub loop-input-init : goal.loop-input-init
loop-input-init c = ap (λ (list : List InputFactors). list ++ factor_list c.args.group.now (settled_on c.args.inputs.now c.args.sink)) c.in_ok-list.ensures.items

pub loop-input-preserved : goal.loop-input-preserved
loop-input-preserved c =
    next_gives (λ (inputs : List Input). factor_list c.args.group.now (settled_on inputs c.args.sink)) c.args.inputs.now c.loop-input.input-index c.input-item.result c.loop-input.list.items c.add_settled.new.list.items _
    c.loop-input-test.true c.input-item.is c.in_ok-add_settled.ensures c.loop-input.invariant

pub returns : goal.returns
returns c =
    last_gave (λ (inputs : List Input). factor_list c.args.group.now (settled_on inputs c.args.sink)) c.args.inputs.now c.loop-input.input-index c.loop-input.list.items _
    c.loop-input-test.false refl c.loop-input.invariant
