use Rattle.std.proofs.Common.{◌∙◌, arith}
use Rattle.px_model.specs.Going.{after}
use Rattle.px_model.specs.Sink.{with_stream}
use Rattle.px_model.specs.Turn.{going_notices}
use Rattle.px_lane.proofs.Each.{done_more, done_fits}
use Rattle.px_lane.specs.Inputs.{inputs_of}
use Rattle.px_lane.proofs.Resting.{stay, notice_nothing}
use Rattle.px_lane.proofs.inputs.go_each.Goals as goal

pub go_one-requires : goal.go_one-requires
go_one-requires g c =
    let l = c.loop-input in
    done_fits (with_stream (λ s. after s c.args.frames)) (going_notices c.args.frames) c.args.inputs.now l.inputs c.args.out.now.notices l.out.notices l.input-index c.input-item.result l.out.capacity
    l.invariant.0 (omega (arith, l.auto.inputs, c.loop-input-test.true)) l.auto.inputs
    (omega (arith, l.invariant.1, c.requires))

pub loop-input-preserved : goal.loop-input-preserved
loop-input-preserved g c =
    let l = c.loop-input in
    let e = c.go_one.ensures in (
      done_more (with_stream (λ s. after s c.args.frames)) (going_notices c.args.frames) c.args.inputs.now l.inputs c.args.out.now.notices l.out.notices c.go_one.new.out.notices l.input-index c.input-item.result c.go_one.new.input
          l.invariant.0 (omega (arith, l.auto.inputs, c.loop-input-test.true)) l.auto.inputs
          e.input e.room e.block_room e.notices,
      e.capacity ∙ l.invariant.1,
    )

pub returns-then-frames-eq0-clause-inputs : goal.returns-then-frames-eq0-clause-inputs
returns-then-frames-eq0-clause-inputs g c = stay c.args.frames (inputs_of c.args.inputs.now) c.if-frames-eq0.true

pub returns-then-frames-eq0-clause-notices : goal.returns-then-frames-eq0-clause-notices
returns-then-frames-eq0-clause-notices g c = notice_nothing c.args.frames (inputs_of c.args.inputs.now) c.args.out.now.notices c.if-frames-eq0.true
