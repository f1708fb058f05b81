use Rattle.std.proofs.Common.{List, Some, ap, sym, ◌∙◌, subst}
use Rattle.px_lane.specs.declared.input.Input.{Input}
use Rattle.px_lane.specs.Inputs.{inputs_of}
use Rattle.px_lane.specs.Places.{IsAt, IsGap}
use Rattle.px_lane.proofs.Places.{at_stream, gap_stream, at_without, gap_without}
use Rattle.px_lane.proofs.finding.close_at.Goals as goal

pub returns-in-Err-clause-stream : goal.returns-in-Err-clause-stream
returns-in-Err-clause-stream c =
    gap_stream c.args.index.0 c.in-Err.field-0 c.args.items.now.items (subst (λ (xs : List Input). IsGap c.args.index.0 c.in-Err.field-0 xs) c.as_slice.ensures.value c.in-Err.ensures.err)

pub returns-in-Err-clause-inputs : goal.returns-in-Err-clause-inputs
returns-in-Err-clause-inputs c =
    gap_without c.args.index.0 c.in-Err.field-0 c.args.items.now.items (subst (λ (xs : List Input). IsGap c.args.index.0 c.in-Err.field-0 xs) c.as_slice.ensures.value c.in-Err.ensures.err)

pub returns-in-Ok-clause-stream : goal.returns-in-Ok-clause-stream
returns-in-Ok-clause-stream c =
    at_stream c.args.index.0 c.in-Ok.place c.args.items.now.items c.remove-stream.result
    (subst (λ (xs : List Input). IsAt c.args.index.0 c.in-Ok.place xs) c.as_slice.ensures.value c.in-Ok.ensures.ok)
    ∙ ap (λ (x : Input). Some x.stream.stream) (sym c.remove-stream.ensures.value)

pub returns-in-Ok-clause-inputs : goal.returns-in-Ok-clause-inputs
returns-in-Ok-clause-inputs c =
    ap inputs_of c.remove-stream.ensures.items
    ∙ at_without c.args.index.0 c.in-Ok.place c.args.items.now.items
    (subst (λ (xs : List Input). IsAt c.args.index.0 c.in-Ok.place xs) c.as_slice.ensures.value c.in-Ok.ensures.ok)
