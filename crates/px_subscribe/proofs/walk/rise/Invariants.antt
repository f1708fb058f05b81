use Rattle.std.proofs.Common.{drop}
use Rattle.px_subscribe.specs.Walk.{RisesFrom}
use Rattle.px_subscribe.proofs.walk.rise.Given as goal

-- where the indices that are left rise, all do
abbrev pub invariant-loop-info : goal.invariant-loop-info
invariant-loop-info g l = RisesFrom g.I.Object.index_of l.least (drop l.info-index l.infos) → RisesFrom g.I.Object.index_of 0 l.infos
