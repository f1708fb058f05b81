use Rattle.std.proofs.Common.{sym, ◌∙◌, arith}
use Rattle.px_core.proofs.Finding.{none_at_end, is_found, is_none}
use Rattle.px_core.proofs.found.input_on.Goals as goal

pub returns-then-place-inputs : goal.returns-then-place-inputs
returns-then-place-inputs c =
    sym (none_at_end c.args.sink c.args.index c.place-place.result c.args.inputs.now c.place-place.ensures.below (omega (arith, c.if-place-inputs.true)))

pub returns-then-is_on : goal.returns-then-is_on
returns-then-is_on c =
    is_found c.args.sink c.args.index c.place-place.result c.args.inputs.now c.index-inputs-place.result c.requires c.place-place.ensures.below c.if-place-inputs.false
    (c.place-place.ensures.end c.index-inputs-place.result c.if-place-inputs.false) c.index-inputs-place.is (sym c.is_on.ensures ∙ c.if-is_on.true)

pub returns : goal.returns
returns c =
    is_none c.args.sink c.args.index c.place-place.result c.args.inputs.now c.index-inputs-place.result c.requires c.place-place.ensures.below c.if-place-inputs.false
    (c.place-place.ensures.end c.index-inputs-place.result c.if-place-inputs.false) c.index-inputs-place.is (sym c.is_on.ensures ∙ c.if-is_on.false)
