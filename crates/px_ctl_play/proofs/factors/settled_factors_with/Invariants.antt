use Rattle.std.proofs.Common.{◌≡◌, ◌++◌, drop}
use Rattle.px_ctl_play.specs.Arrival.{settled_with}
use Rattle.px_ctl_play.specs.Factors.{factor_list}
use Rattle.px_ctl_play.proofs.factors.settled_factors_with.Given as goal

abbrev pub invariant-loop-input : goal.invariant-loop-input
invariant-loop-input l =
    l.list.items ++ factor_list l.group (settled_with (drop l.input-index l.inputs) l.sink l.index) ≡ factor_list l.group (settled_with l.inputs l.sink l.index)
