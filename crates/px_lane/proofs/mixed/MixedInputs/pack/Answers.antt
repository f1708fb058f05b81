use Rattle.std.proofs.Common.{ℕ, ◌+◌, ◌-◌, ◌*◌, map, ap, sym, ◌∙◌}
use Rattle.std.specs.List.{concat, range_with_len}
use Rattle.px_msg.specs.View.{sample_spec}
use Rattle.px_model.specs.Mix.{mix_of}
use Rattle.px_model.specs.Sink.{streams_of}
use Rattle.px_stream.specs.Samples.{samples}
use Rattle.px_lane.specs.Mixed.{SummedInputs}
use Rattle.px_lane.proofs.mixed.MixedInputs.pack.Goals as goal

pub returns-clause-bytes : goal.returns-clause-bytes
returns-clause-bytes g c =
    let d = c.self.inside in
    c.pack.ensures.bytes d.inputs.inputs c.self.invariant.2
    ∙ ap (λ (n : ℕ). concat (map (mix_of samples (sample_spec d.spec) (streams_of d.inputs.inputs)) (range_with_len c.args.from (n - c.args.from)))) (sym c.self.invariant.3)
    ∙ ap (λ (v : SummedInputs). concat (map (mix_of samples (sample_spec v.spec) (streams_of v.inputs)) (range_with_len c.args.from (v.frames - c.args.from)))) c.self.view_is

pub returns-clause-ticks : goal.returns-clause-ticks
returns-clause-ticks g c =
    let d = c.self.inside in
    c.pack.ensures.ticks
    ∙ ap (λ (n : ℕ). c.args.steps.now + d.spec.channels * (n - c.args.from)) (sym c.self.invariant.3)
    ∙ ap (λ (v : SummedInputs). c.args.steps.now + v.spec.channels * (v.frames - c.args.from)) c.self.view_is
