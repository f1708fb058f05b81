use Rattle.std.proofs.Common.{◌∙◌, arith}
use Rattle.px_model.specs.Sink.{with_stream}
use Rattle.px_model.specs.Turn.{asked_stream, asked_notices}
use Rattle.px_lane.proofs.Each.{done_more, done_fits}
use Rattle.px_lane.proofs.inputs.ask_each.Goals as goal

pub ask_one-requires : goal.ask_one-requires
ask_one-requires c =
    let l = c.loop-input in
    done_fits (with_stream (asked_stream c.args.mixed)) (asked_notices c.args.mixed) c.args.inputs.now l.inputs c.args.out.now.notices l.out.notices l.input-index c.input-item.result l.out.capacity
    l.invariant.0 (omega (arith, l.auto.inputs, c.loop-input-test.true)) l.auto.inputs
    (omega (arith, l.invariant.1, c.requires))

pub loop-input-preserved : goal.loop-input-preserved
loop-input-preserved c =
    let l = c.loop-input in
    let e = c.ask_one.ensures in (
      done_more (with_stream (asked_stream c.args.mixed)) (asked_notices c.args.mixed) c.args.inputs.now l.inputs c.args.out.now.notices l.out.notices c.ask_one.new.out.notices l.input-index c.input-item.result c.ask_one.new.input
          l.invariant.0 (omega (arith, l.auto.inputs, c.loop-input-test.true)) l.auto.inputs
          e.input e.room e.block_room e.notices,
      e.capacity ∙ l.invariant.1,
    )
