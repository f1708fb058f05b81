use Rattle.std.proofs.Common.{ℕ, ◌<◌, get_or}
use Rattle.px_flat.specs.FlatVolume.{FlatGroup}
use Rattle.px_ctl_info.specs.Infos.{RisesFrom}
use Rattle.px_ctl_info.proofs.infos.all_rise.Given as goal

abbrev pub invariant-loop-group : goal.invariant-loop-group
invariant-loop-group l = (k : ℕ) (d : FlatGroup) → k < l.group-index → RisesFrom 0 (FlatGroup.members (get_or l.groups k d))
