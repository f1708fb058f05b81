use Rattle.std.proofs.Common.{◌≡◌, ℕ, ◌+◌, arith, refl, sym, subst}
use Rattle.px_kernel.specs.Kernel.{AreReady, Changes}
use Rattle.px_kernel.proofs.Changing.{both_changed, ready_behind}
use Rattle.px_kernel.proofs.change.change_fours.Goals as goal

pub change_four-requires-clause-small : goal.change_four-requires-clause-small
change_four-requires-clause-small c =
    let same : c.factor_for.result ≡ c.args.factor = c.factor_for.ensures c.args.factor refl in
    omega (arith, same, c.requires.small)

pub change_four-requires-clause-ready : goal.change_four-requires-clause-ready
change_four-requires-clause-ready c =
    let same : c.factor_for.result ≡ c.args.factor = c.factor_for.ensures c.args.factor refl in
    subst (λ (f : ℕ). AreReady c.args.add c.loop-from.sums c.args.values.now f c.loop-from.from) (sym same)
    (ready_behind c.args.add c.args.sums.now c.args.values.now c.args.factor 0 c.loop-from.from c.loop-from.sums c.requires.ready c.loop-from.invariant.1 (omega arith))

pub loop-from-preserved : goal.loop-from-preserved
loop-from-preserved c =
    let same : c.factor_for.result ≡ c.args.factor = c.factor_for.ensures c.args.factor refl in
    let next : Changes c.args.add c.loop-from.sums c.args.values.now c.args.factor c.loop-from.from (c.loop-from.from + 4) c.change_four.new.sums =
    subst (λ (f : ℕ). Changes c.args.add c.loop-from.sums c.args.values.now f c.loop-from.from (c.loop-from.from + 4) c.change_four.new.sums) same c.change_four.ensures in (
      omega (arith, c.loop-from-test.true, c.loop-from.auto.sums),
      both_changed c.args.add c.args.sums.now c.args.values.now c.args.factor 0 c.loop-from.from (c.loop-from.from + 4) c.loop-from.sums c.change_four.new.sums
          c.loop-from.invariant.1 next (omega arith) (omega arith),
    )
