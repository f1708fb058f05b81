use Rattle.std.proofs.Common.{sym}
use Rattle.px_tag.proofs.Properties.{with_next}
use Rattle.px_tag.proofs.proplist.PropList.set_all.Goals as goal

pub loop-i-preserved : goal.loop-i-preserved
loop-i-preserved c = rw (c.in_ok-set.ensures.set, c.loop-i.invariant) (sym (with_next c.args.self.now c.args.other.now c.loop-i.i (c.property.result.0.now, c.property.result.1.now) c.property.ensures.entry))
