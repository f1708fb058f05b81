use Rattle.std.proofs.Common.{◌+◌, ◌≤◌, drop, subst}
use Rattle.px_subscribe.specs.Walk.{RisesFrom}
use Rattle.px_subscribe.proofs.Walked.{risen}
use Rattle.px_subscribe.proofs.walk.rise.Goals as goal

pub loop-info-preserved : goal.loop-info-preserved
loop-info-preserved g c = λ far.
    risen g.I.Object.index_of c.loop-info.least c.loop-info.info-index c.args.infos.now c.info-item.result c.loop-info-test.true c.info-item.is
    (subst (λ n. c.loop-info.least ≤ n) c.index-index.ensures c.if-index-least.false) c.loop-info.invariant
    (subst (λ n. RisesFrom g.I.Object.index_of (n + 1) (drop (c.loop-info.info-index + 1) c.args.infos.now)) c.index-index.ensures far)
