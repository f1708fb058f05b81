use Rattle.px_ramp.proofs.Unramped.{value_more, past_both, both_few}
use Rattle.std.proofs.Common.{arith}
use Rattle.px_ramp.proofs.ramps.running_of.Goals as goal

pub loop-i-preserved : goal.loop-i-preserved
loop-i-preserved c = record {
  few = both_few c.loop-i.running c.running.result c.max-running.result c.args.most c.max-running.ensures c.loop-i.invariant.few c.running.ensures.few;
  stands = λ f later less.
      let past = past_both c.args.at f c.loop-i.running c.running.result c.max-running.result c.max-running.ensures later in
      value_more c.args.frames f c.args.ramps.now c.args.factors.now c.loop-i.i _ _ (omega (arith, c.loop-i-test.true)) (omega (arith, c.loop-i-test.true, c.if-ramps-factors.false))
      (c.loop-i.invariant.stands f past.0 less) (c.running.ensures.stands f past.1 less);
}
