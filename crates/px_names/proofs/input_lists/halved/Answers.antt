use Rattle.std.proofs.Common.{arith, ap, sym, ◌∙◌}
use Rattle.px_names.specs.declared.input_lists.InputList.{InputList}
use Rattle.px_names.proofs.Halved.{found_here, absent_at_end, absent_here}
use Rattle.px_names.proofs.input_lists.halved.Goals as goal

pub returns-then-place-lists : goal.returns-then-place-lists
returns-then-place-lists c = absent_at_end c.args.input c.args.lists.now c.lower-place.result (omega (arith, c.if-place-lists.true)) c.lower-place.ensures.below

pub returns-then-lists-place : goal.returns-then-lists-place
returns-then-lists-place c =
    found_here c.args.input c.args.lists.now c.lower-place.result c.index-lists-place.result (omega (arith, c.if-place-lists.false)) c.index-lists-place.is c.lower-place.ensures.below
    (ap (λ y. (InputList.input y).0) c.index-lists-place.is ∙ c.if-lists-place.true)

pub returns : goal.returns
returns c =
    let here = ap (λ y. (InputList.input y).0) c.index-lists-place.is in
    let least = c.lower-place.ensures.end c.lower-place.result c.index-lists-place.result (omega arith) (omega (arith, c.if-place-lists.false)) in
    absent_here c.args.input c.args.lists.now c.lower-place.result c.index-lists-place.result (omega (arith, c.if-place-lists.false)) c.index-lists-place.is c.lower-place.ensures.below c.requires
    (omega (arith, here, least)) (λ e. c.if-lists-place.false (sym here ∙ e))
