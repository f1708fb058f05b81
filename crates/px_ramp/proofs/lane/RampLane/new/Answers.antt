use Rattle.std.proofs.Common.{sym, subst, ap, ◌∙◌}
use Rattle.std.proofs.lemmas.Bool.{false≢true}
use Rattle.px_msg.specs.View.{sample_spec}
use Rattle.px_lane.specs.Lane.{IsLane}
use Rattle.px_lane.proofs.Shares.{some_bytes}
use Rattle.px_lane.proofs.Turning.{empty_lane}
use Rattle.px_ramp.specs.RampMix.{RampSink}
use Rattle.px_ramp.proofs.lane.RampLane.new.Goals as goal

pub invariant_of-result : goal.invariant_of-result
invariant_of-result g c =
    let sink = c.args.sink.now in (
      subst (λ (s : RampSink). IsLane s.sink) (sym c.in_ok-new.ensures.ramped) (empty_lane (sample_spec sink.spec) sink.guard sink.depth c.requires.low_depth (some_bytes sink.spec c.requires.mixed.some_channels)),
      λ stops. absurd (false≢true (sym (ap (λ (s : RampSink). s.sink.stopped) c.in_ok-new.ensures.ramped) ∙ stops)),
    )
