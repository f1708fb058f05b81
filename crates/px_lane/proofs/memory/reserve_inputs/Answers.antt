use Rattle.std.proofs.Common.{◌<◌, ◌∙◌, ap, length, arith}
use Rattle.std.specs.Prelude.{slice_index_or}
use Rattle.px_model.specs.Stream.{Stream}
use Rattle.px_model.specs.Sink.{Input as Stands}
use Rattle.px_lane.specs.Inputs.{input_of, HasRoom}
use Rattle.px_lane.proofs.Places.{all_with, all_at}
use Rattle.px_lane.proofs.Reserved.{same_set, all_more}
use Rattle.px_lane.proofs.memory.reserve_inputs.Goals as goal

pub returns-in_err-reserve-clause-same : goal.returns-in_err-reserve-clause-same
returns-in_err-reserve-clause-same c =
    let l = c.loop-input in
    let x = slice_index_or l.inputs l.input-index c.input-item.result in
    same_set input_of l.inputs l.input-index c.input-item.result _ (ap (λ (s : Stream). let v : Stands = record { index = x.index.0; stream = s } in v) c.reserve.ensures.stream) ∙ l.invariant.0

pub returns-in_err-reserve-clause-held : goal.returns-in_err-reserve-clause-held
returns-in_err-reserve-clause-held c = λ old held h.
    let l = c.loop-input in
    let few : l.input-index < length l.inputs = omega (arith, c.loop-input-test.true, l.auto.inputs) in
    let there = all_at old held l.input-index l.inputs c.input-item.result few (l.invariant.1 old held h) in
    all_with old held l.input-index l.inputs _ (omega (arith, c.reserve.ensures.room, there.0), omega (arith, c.reserve.ensures.block_room, there.1)) (l.invariant.1 old held h)

pub loop-input-preserved : goal.loop-input-preserved
loop-input-preserved c =
    let l = c.loop-input in
    let x = slice_index_or l.inputs l.input-index c.input-item.result in
    let few : l.input-index < length l.inputs = omega (arith, c.loop-input-test.true, l.auto.inputs) in (
      same_set input_of l.inputs l.input-index c.input-item.result _ (ap (λ (s : Stream). let v : Stands = record { index = x.index.0; stream = s } in v) c.reserve.ensures.stream) ∙ l.invariant.0,
      λ old held h.
          let there = all_at old held l.input-index l.inputs c.input-item.result few (l.invariant.1 old held h) in
          all_with old held l.input-index l.inputs _ (omega (arith, c.reserve.ensures.room, there.0), omega (arith, c.reserve.ensures.block_room, there.1)) (l.invariant.1 old held h),
      all_more (HasRoom c.args.room c.args.blocks) l.inputs l.input-index _ few l.invariant.2 c.in_ok-reserve.ensures.ok,
    )
