use Rattle.px_subscribe.proofs.Made.{one_made}
use Rattle.px_subscribe.proofs.scene.Scene.make.Goals as goal

pub loop-change-preserved : goal.loop-change-preserved
loop-change-preserved g c =
    one_made c.loop-change.self c.change_one.new.self _ c.args.changes.now c.loop-change.change-index c.change-item.result c.loop-change-test.true c.change-item.is c.in_ok-change_one.ensures c.loop-change.invariant
