use Rattle.std.proofs.Common.{◌≡◌, ◌++◌, drop}
use Rattle.px_outcome.specs.Input.{settled_on}
use Rattle.px_ctl_play.specs.Factors.{factor_list}
use Rattle.px_ctl_play.proofs.factors.settled_factors.Given as goal

abbrev pub invariant-loop-input : goal.invariant-loop-input
invariant-loop-input l =
    l.list.items ++ factor_list l.group (settled_on (drop l.input-index l.inputs) l.sink) ≡ factor_list l.group (settled_on l.inputs l.sink)
