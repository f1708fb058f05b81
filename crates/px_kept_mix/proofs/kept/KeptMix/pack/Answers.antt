use Rattle.std.proofs.Common.{ℕ, ◌+◌, ◌-◌, ◌*◌, ◌∙◌, map, ap, arith}
use Rattle.std.specs.List.{concat, range_with_len}
use Rattle.px_msg.specs.View.{sample_spec}
use Rattle.px_model.specs.Mix.{mix_of}
use Rattle.px_model.specs.Sink.{streams_of}
use Rattle.px_stream.specs.Samples.{samples}
use Rattle.px_mixcache.specs.Cache.{KeptSums}
use Rattle.px_kept_mix.proofs.kept.KeptMix.pack.Goals as goal

pub pack_between-requires-clause-order : goal.pack_between-requires-clause-order
pack_between-requires-clause-order g c = omega (arith, c.requires.from, c.self.invariant.0, ap (λ (v : KeptSums). v.frames) c.self.view_is)

pub pack_between-requires-clause-inside : goal.pack_between-requires-clause-inside
pack_between-requires-clause-inside g c = omega (arith, c.self.invariant.0, ap (λ (v : KeptSums). v.frames) c.self.view_is)

pub returns-clause-bytes : goal.returns-clause-bytes
returns-clause-bytes g c = λ inputs h.
    c.pack_between.ensures.bytes inputs h
    ∙ ap (λ (n : ℕ). concat (map (mix_of samples (sample_spec c.args.sink.now) (streams_of inputs)) (range_with_len c.args.from (n - c.args.from))))
    (c.self.invariant.0 ∙ ap (λ (v : KeptSums). v.frames) c.self.view_is)

pub returns-clause-ticks : goal.returns-clause-ticks
returns-clause-ticks g c =
    c.pack_between.ensures.ticks
    ∙ ap (λ (n : ℕ). c.args.steps.now + c.args.sink.now.channels * (n - c.args.from)) (c.self.invariant.0 ∙ ap (λ (v : KeptSums). v.frames) c.self.view_is)
