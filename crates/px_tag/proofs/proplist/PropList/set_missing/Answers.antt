use Rattle.std.proofs.Common.{arith, sym, ◌∙◌, length}
use Rattle.px_tag.proofs.Properties.{missing_next}
use Rattle.px_tag.proofs.proplist.PropList.set_missing.Goals as goal

pub loop-i-preserved : goal.loop-i-preserved
loop-i-preserved c = record {
  set = rw (c.in_ok-set_one_missing.ensures.set, c.loop-i.invariant.set) (sym (missing_next c.args.self.now c.args.other.now c.loop-i.i (c.property.result.0.now, c.property.result.1.now) c.property.ensures.entry));
  front = c.in_ok-set_one_missing.ensures.front (length c.args.self.now) c.loop-i.invariant.longer ∙ c.loop-i.invariant.front;
  longer = omega (arith, c.loop-i.invariant.longer, c.in_ok-set_one_missing.ensures.longer);
}
