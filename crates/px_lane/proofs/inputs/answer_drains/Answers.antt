use Rattle.std.proofs.Common.{arith}
use Rattle.px_model.specs.Notice.{Notice}
use Rattle.px_lane.specs.Asked.{drained_notices}
use Rattle.px_lane.specs.Inputs.{input_of}
use Rattle.px_lane.proofs.Drains.{one_noticed, next_fits}
use Rattle.px_lane.proofs.inputs.answer_drains.Goals as goal

pub push-requires : goal.push-requires
push-requires c =
    let l = c.loop-tag in
    let s = l.input.stream.stream in
    let t = c.drained.new.self.stream in
    let first = c.in-Some.ensures.tag in
    next_fits l.out.notices c.args.out.now.notices (drained_notices (input_of c.args.input.now)) (drained_notices (record { index = l.input.index.0; stream = c.drained.new.self.stream })) (Notice.drained l.input.index.0 c.in-Some.tag) (drained_notices (input_of l.input)) l.out.capacity
    l.invariant.noticed (one_noticed s c.drained.new.self.stream c.in-Some.tag first.0 first.1 first.2 l.input.index.0) (omega (arith, l.invariant.capacity, c.requires))
