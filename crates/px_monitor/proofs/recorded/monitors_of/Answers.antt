use Rattle.std.proofs.Common.{arith, subst, sym}
use Rattle.px_outcome.specs.Target.{IsTarget}
use Rattle.px_monitor.proofs.recorded.monitors_of.Goals as goal

pub add_monitor-requires : goal.add_monitor-requires
add_monitor-requires c =
    subst IsTarget (sym c.sink-item.is) (c.requires c.loop-sink.sink-index c.sink-item.result (omega (arith, c.loop-sink-test.true)))
