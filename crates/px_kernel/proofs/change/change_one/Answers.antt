use Rattle.std.proofs.Common.{Bool, true, false, ap, subst, ◌∙◌, sym, FitsSigned, w64}
use Rattle.px_kernel.specs.Kernel.{changed, scaled}
use Rattle.px_kernel.proofs.Shares.{one_is, sum_fits, sum_read}
use Rattle.px_kernel.proofs.change.change_one.Goals as goal

pub overflow_add-result : goal.overflow_add-result
overflow_add-result c =
    let share = scaled c.args.value c.args.factor in
    let good : FitsSigned w64 (changed true c.args.sum share) =
    subst (λ (b : Bool). FitsSigned w64 (changed b c.args.sum share)) c.if-add.true c.requires.fit in
    sum_fits true c.args.sum share _ c.ranges.sum (one_is c.args.value c.args.factor c.ranges.value c.ranges.factor.fits) good

pub overflow_sub-result : goal.overflow_sub-result
overflow_sub-result c =
    let share = scaled c.args.value c.args.factor in
    let good : FitsSigned w64 (changed false c.args.sum share) =
    subst (λ (b : Bool). FitsSigned w64 (changed b c.args.sum share)) c.if-add.false c.requires.fit in
    sum_fits false c.args.sum share _ c.ranges.sum (one_is c.args.value c.args.factor c.ranges.value c.ranges.factor.fits) good

pub returns-then-add : goal.returns-then-add
returns-then-add c =
    let share = scaled c.args.value c.args.factor in
    let good : FitsSigned w64 (changed true c.args.sum share) =
    subst (λ (b : Bool). FitsSigned w64 (changed b c.args.sum share)) c.if-add.true c.requires.fit in
    sum_read true c.args.sum share _ c.ranges.sum (one_is c.args.value c.args.factor c.ranges.value c.ranges.factor.fits) good
    ∙ ap (λ (b : Bool). changed b c.args.sum share) (sym c.if-add.true)

pub returns-else-add : goal.returns-else-add
returns-else-add c =
    let share = scaled c.args.value c.args.factor in
    let good : FitsSigned w64 (changed false c.args.sum share) =
    subst (λ (b : Bool). FitsSigned w64 (changed b c.args.sum share)) c.if-add.false c.requires.fit in
    sum_read false c.args.sum share _ c.ranges.sum (one_is c.args.value c.args.factor c.ranges.value c.ranges.factor.fits) good
    ∙ ap (λ (b : Bool). changed b c.args.sum share) (sym c.if-add.false)
