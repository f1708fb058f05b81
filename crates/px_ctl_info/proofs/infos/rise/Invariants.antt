use Rattle.std.proofs.Common.{drop}
use Rattle.px_ctl_info.specs.Infos.{RisesFrom}
use Rattle.px_ctl_info.proofs.infos.rise.Given as goal

-- where the indices that are left rise, all do
abbrev pub invariant-loop-m : goal.invariant-loop-m
invariant-loop-m l = RisesFrom l.least (drop l.m-index l.members) → RisesFrom 0 l.members
