use Rattle.std.proofs.Common.{List, refl, ap, ◌∙◌, subst, cond}
use Rattle.std.specs.Prelude.{is_ok, insert}
use Rattle.px_lane.specs.declared.input.Input.{Input}
use Rattle.px_lane.specs.Inputs.{inputs_of}
use Rattle.px_lane.specs.Places.{IsAt, IsGap}
use Rattle.px_lane.proofs.Places.{at_with, gap_with}
use Rattle.px_lane.proofs.finding.open_at.Goals as goal

pub returns-in-Ok-clause-inputs : goal.returns-in-Ok-clause-inputs
returns-in-Ok-clause-inputs c =
    at_with c.args.input.index.0 c.in-Ok.place c.args.items.now.items c.args.input
    (subst (λ (xs : List Input). IsAt c.args.input.index.0 c.in-Ok.place xs) c.as_slice.ensures.value c.in-Ok.ensures.ok) refl

pub returns-in-Err-clause-inputs : goal.returns-in-Err-clause-inputs
returns-in-Err-clause-inputs c =
    ap inputs_of (c.insert.ensures.items ∙ ap (λ r. cond (is_ok r) (insert c.args.items.now.items c.in-Err.place c.args.input) c.args.items.now.items) c.unwrap.ensures)
    ∙ gap_with c.args.input.index.0 c.in-Err.place c.args.items.now.items c.args.input
    (subst (λ (xs : List Input). IsGap c.args.input.index.0 c.in-Err.place xs) c.as_slice.ensures.value c.in-Err.ensures.err) refl
