use Rattle.std.proofs.Common.{◌≡◌, ℕ, ◌+◌, arith, subst}
use Rattle.px_kernel.specs.Kernel.{Changes}
use Rattle.px_kernel.proofs.Changing.{both_changed, ready_behind}
use Rattle.px_kernel.proofs.change.change_eight.Goals as goal

pub change_four-requires-2-clause-ready : goal.change_four-requires-2-clause-ready
change_four-requires-2-clause-ready c =
    ready_behind c.args.add c.args.sums.now c.args.values.now 65536 c.args.from (c.args.from + 4) c.change_four.new.sums c.requires.ready c.change_four.ensures (omega arith)

pub returns : goal.returns
returns c =
    let same : c.args.from + 4 + 4 ≡ c.args.from + 8 = omega arith in
    both_changed c.args.add c.args.sums.now c.args.values.now 65536 c.args.from (c.args.from + 4) (c.args.from + 8) c.change_four.new.sums c.change_four-2.new.sums
    c.change_four.ensures (subst (λ (to : ℕ). Changes c.args.add c.change_four.new.sums c.args.values.now 65536 (c.args.from + 4) to c.change_four-2.new.sums) same c.change_four-2.ensures) (omega arith) (omega arith)
