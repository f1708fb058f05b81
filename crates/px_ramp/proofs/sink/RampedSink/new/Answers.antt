use Rattle.std.proofs.Common.{◌≡◌, ℕ, ◌-◌, ◌*◌, ◌≤◌, List, length, ap, sym, ◌∙◌, subst, arith}
use Rattle.px_msg.specs.View.{sample_spec}
use Rattle.px_model.specs.Frame.{frame_size}
use Rattle.px_model.specs.Sink.{Sink}
use Rattle.px_lane.specs.Mixing.{IsMixed}
use Rattle.px_lane.specs.Lane.{IsLane}
use Rattle.px_lane.proofs.Shares.{some_bytes}
use Rattle.px_lane.proofs.Turning.{empty_lane}
use Rattle.px_ramp.specs.declared.ramps.InputRamps.{InputRamps}
use Rattle.px_ramp.specs.Table.{AreWide}
use Rattle.px_ramp.proofs.sink.RampedSink.new.Goals as goal

pub invariant_of-result : goal.invariant_of-result
invariant_of-result c =
    let sink = c.args.sink.now in
    let is = c.in_ok-new.ensures.sink in
    let held = c.in_ok-new-2.ensures in
    record {
      lane = subst IsLane (sym is) (empty_lane (sample_spec sink.spec) sink.guard sink.depth c.requires.low_depth (some_bytes sink.spec c.requires.mixed.some_channels));
      all_mixed = c.in_ok-new.ensures.unaltered ∙ sym (ap (λ (s : Sink). s.filled - s.horizon) is);
      guarded = sym (ap (λ (s : Sink). s.guard) is);
      mixed = subst IsMixed (sym held.spec) c.requires.mixed;
      same_spec = ap sample_spec held.spec ∙ sym (ap (λ (s : Sink). s.spec) is);
      same_depth = held.depth ∙ sym (ap (λ (s : Sink). s.depth) is);
      some = subst (λ (n : ℕ). 1 ≤ n) (sym held.ramp) c.requires.ramp;
      wide = subst (λ (ramps : List InputRamps). AreWide c.in_ok-new-2.field-0.spec.channels ramps) (sym held.ramps) tt;
      full = ap length held.bytes ∙ sym (ap (λ (s : Sink). (s.filled - s.consumed) * frame_size s.spec) is ∙ nothing (frame_size (sample_spec sink.spec)));
    }
  where
    nothing : (n : ℕ) → 0 * n ≡ 0
    nothing n = omega arith
