use Rattle.std.proofs.Common.{List, subst, arith}
use Rattle.std.specs.List.{AllByRecursion}
use Rattle.px_model.specs.Sink.{Input}
use Rattle.px_lane.proofs.Growing.{front_all}
use Rattle.px_ramp.specs.RampMix.{StandAt}
use Rattle.px_ramp.proofs.Unramped.{stand_more, past_both, both_few}
use Rattle.px_ramp.proofs.standing.running.Goals as goal

pub loop-input-preserved : goal.loop-input-preserved
loop-input-preserved c = record {
  few = both_few c.loop-input.running c.input_running.result c.max-running.result c.args.most c.max-running.ensures c.loop-input.invariant.few c.input_running.ensures.few;
  stands = λ f later less.
      let past = past_both c.args.at f c.loop-input.running c.input_running.result c.max-running.result c.max-running.ensures later in
      stand_more c.args.frames f c.args.table.now.ramps c.args.inputs.now c.loop-input.input-index c.input-item.result (omega arith) c.input-item.is
      (c.loop-input.invariant.stands f past.0 less) (c.input_running.ensures.stands f past.1 less);
}

pub returns-clause-stands : goal.returns-clause-stands
returns-clause-stands c = λ f later less.
    subst (λ (xs : List Input). AllByRecursion (StandAt c.args.frames f c.args.table.now.ramps) xs) (front_all c.args.inputs.now c.loop-input.input-index (omega arith)) (c.loop-input.invariant.stands f later less)
