use Rattle.std.proofs.Common.{◌+◌, ◌-◌, ◌*◌, map, ap, ◌∙◌, arith}
use Rattle.std.specs.List.{concat, range_with_len}
use Rattle.px_msg.specs.View.{sample_spec}
use Rattle.px_model.specs.Mix.{mix_of}
use Rattle.px_model.specs.Sink.{streams_of}
use Rattle.px_stream.specs.Samples.{samples}
use Rattle.px_lane.specs.Mixed.{SummedInputs}
use Rattle.px_lane.proofs.mixed.MixedInputs.pack_between.Goals as goal

pub pack_between-requires-clause-inside : goal.pack_between-requires-clause-inside
pack_between-requires-clause-inside g c = omega (arith, c.requires.inside, c.self.invariant.3, ap (λ (v : SummedInputs). v.frames) c.self.view_is)

pub returns-clause-bytes : goal.returns-clause-bytes
returns-clause-bytes g c =
    let d = c.self.inside in
    c.pack_between.ensures.bytes d.inputs.inputs c.self.invariant.2
    ∙ ap (λ (v : SummedInputs). concat (map (mix_of samples (sample_spec v.spec) (streams_of v.inputs)) (range_with_len c.args.from (c.args.to - c.args.from)))) c.self.view_is

pub returns-clause-ticks : goal.returns-clause-ticks
returns-clause-ticks g c =
    c.pack_between.ensures.ticks
    ∙ ap (λ (v : SummedInputs). c.args.steps.now + v.spec.channels * (c.args.to - c.args.from)) c.self.view_is
