use Rattle.std.proofs.Common.{◌+◌, ℕ, ap, sym, subst}
use Rattle.px_sinks.specs.Sinks.{IsOfHeader}
use Rattle.px_sinks.proofs.Sinks.{next_of_header, next_target, no_target}
use Rattle.px_sinks.proofs.targets.targets_in.Goals as goal

pub add_target-requires : goal.add_target-requires
add_target-requires c =
    subst IsOfHeader (sym c.sink-item.is) (next_of_header c.args.sinks.now c.loop-sink.sink-index c.sink-item.result c.loop-sink-test.true c.requires.header)

pub loop-sink-preserved : goal.loop-sink-preserved
loop-sink-preserved c = (
  next_target c.args.sinks.now c.loop-sink.sink-index c.loop-sink.index c.sink-item.result c.loop-sink.made.items c.add_target.new.made.items _
      c.loop-sink-test.true c.sink-item.is c.in_ok-add_target.ensures.value c.loop-sink.invariant.0,
  c.in_ok-add_target.ensures.lawful c.loop-sink.invariant.1,
  ap (λ (i : ℕ). i + 1) c.loop-sink.invariant.2,
)

pub returns-clause-value : goal.returns-clause-value
returns-clause-value c = no_target c.args.sinks.now c.loop-sink.sink-index c.loop-sink.index c.loop-sink.made.items _ c.loop-sink-test.false c.loop-sink.invariant.0

pub returns-clause-lawful : goal.returns-clause-lawful
returns-clause-lawful c = c.loop-sink.invariant.1
