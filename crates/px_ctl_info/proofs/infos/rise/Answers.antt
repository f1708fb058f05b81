use Rattle.px_ctl_info.proofs.Halved.{risen}
use Rattle.px_ctl_info.proofs.infos.rise.Goals as goal

pub loop-m-preserved : goal.loop-m-preserved
loop-m-preserved c = λ far. risen c.loop-m.least c.loop-m.m-index c.args.members.now c.m-item.result c.loop-m-test.true c.m-item.is c.if-index-least.false c.loop-m.invariant far
