use Rattle.std.proofs.Common.{◌+◌, ◌∙◌, arith}
use Rattle.px_model.specs.Sink.{streams_of}
use Rattle.px_lane.specs.Inputs.{inputs_of}
use Rattle.px_ramp.specs.RampMix.{ramped_inputs}
use Rattle.px_ramp.proofs.Packing.{frames_packed}
use Rattle.px_ramp.proofs.mixing.mix_ramped.Goals as goal

pub add_all-requires-clause-nothing : goal.add_all-requires-clause-nothing
add_all-requires-clause-nothing g c = λ i k fed less. c.extend.ensures.nothing i k (omega (arith, fed, c.requires.channels)) (omega (arith, c.requires.none))

pub returns-clause-frames : goal.returns-clause-frames
returns-clause-frames g c =
    c.frames.ensures.bytes
    ∙ frames_packed c.args.sink.now (λ k. streams_of (ramped_inputs c.args.frames (c.args.horizon + k) c.args.table.now.ramps (inputs_of c.args.inputs.now))) c.args.count c.add_all.new.cache
    (c.add_all.ensures.large.channels ∙ c.extend.ensures.channels ∙ c.requires.channels) c.add_all.ensures.sums
