use Rattle.std.proofs.Common.{ℕ, List, ap, sym, ◌∙◌}
use Rattle.std.specs.Prelude.{not, bytes_eq}
use Rattle.px_lane.specs.Costs.{has_others}
use Rattle.px_lane.proofs.Places.{at_stream, gap_stream}
use Rattle.px_lane.proofs.finding.has_others_at.Goals as goal

pub returns-in-Err : goal.returns-in-Err
returns-in-Err c = ap (has_others c.args.factors.now) (sym (gap_stream c.args.index.0 c.in-Err.field-0 c.args.inputs.now c.in-Err.ensures.err))

pub returns-in-Ok : goal.returns-in-Ok
returns-in-Ok c =
    c.ne.ensures
    ∙ ap (λ (fs : List ℕ). not (bytes_eq fs c.values-in-Ok.result.now)) c.values.ensures.value
    ∙ ap (λ (fs : List ℕ). not (bytes_eq c.args.factors.now fs)) (c.values-in-Ok.ensures.value ∙ c.factors.ensures.value)
    ∙ ap (has_others c.args.factors.now) (sym (at_stream c.args.index.0 c.in-Ok.place c.args.inputs.now c.index-inputs-place.result c.in-Ok.ensures.ok))
