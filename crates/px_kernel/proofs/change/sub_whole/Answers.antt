use Rattle.std.proofs.Common.{false, arith}
use Rattle.px_kernel.proofs.Changing.{ready_behind, ready_after_eight, sixteen_changed}
use Rattle.px_kernel.proofs.change.sub_whole.Goals as goal

pub change_eight-requires-clause-ready : goal.change_eight-requires-clause-ready
change_eight-requires-clause-ready c =
    ready_behind false c.args.sums.now c.args.values.now 65536 0 c.loop-from.from c.loop-from.sums c.requires.ready c.loop-from.invariant.1 (omega arith)

pub change_eight-requires-in-loop-from-clause-ready : goal.change_eight-requires-in-loop-from-clause-ready
change_eight-requires-in-loop-from-clause-ready c =
    ready_after_eight false c.args.sums.now c.args.values.now 65536 c.loop-from.from c.loop-from.sums c.change_eight.new.sums c.requires.ready c.loop-from.invariant.1 c.change_eight.ensures

pub loop-from-preserved : goal.loop-from-preserved
loop-from-preserved c = (
  omega (arith, c.loop-from-test.true, c.loop-from.auto.sums),
  sixteen_changed false c.args.sums.now c.args.values.now 65536 c.loop-from.from c.loop-from.sums c.change_eight.new.sums c.change_eight-in-loop-from.new.sums
      c.loop-from.invariant.1 c.change_eight.ensures c.change_eight-in-loop-from.ensures,
)
