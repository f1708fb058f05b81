use Rattle.std.proofs.Common.{◌≡◌, ◌+◌, ◌*◌, ◌<◌, ℕ, get_or, [], ap, sym, ◌∙◌, arith, mul_comm}
use Rattle.px_sample.specs.declared.format.Format.TheVariants.{S16Le}
use Rattle.px_sample.specs.WorkValue.{work_value_of}
use Rattle.px_stream.specs.Lent.{sample_at}
use Rattle.px_stream.proofs.Halves.{half_got, pairs_many}
use Rattle.px_stream.proofs.Runs.{place_inside}
use Rattle.px_stream.proofs.Sounds.{chunk_got}
use Rattle.px_stream.proofs.lent.put_samples.Goals as goal

pub put_samples_of_two-requires-clause-whole : goal.put_samples_of_two-requires-clause-whole
put_samples_of_two-requires-clause-whole c =
    let two : c.args.channels ≡ 2 = omega (arith, c.if-channels-eq2.true) in
    pairs_many c.args.frames c.args.bytes.now c.as_chunks.result.0.now c.as_chunks.ensures.front (c.requires.whole ∙ ap (λ (n : ℕ). 2 * (c.args.frames * n)) two ∙ omega arith)

pub returns-then-channels-eq2-clause-values : goal.returns-then-channels-eq2-clause-values
returns-then-channels-eq2-clause-values c =
    let two : c.args.channels ≡ 2 = omega (arith, c.if-channels-eq2.true) in
    λ j less.
    c.put_samples_of_two.ensures.values j less
    ∙ ap (work_value_of S16Le)
    (half_got c.args.frames c.args.channel j c.args.bytes.now c.as_chunks.result.0.now c.as_chunks.ensures.front
    (c.requires.whole ∙ ap (λ (n : ℕ). 2 * (c.args.frames * n)) two ∙ omega arith) (omega (arith, two, c.requires.channel)) less)
    ∙ ap (λ (n : ℕ). sample_at c.args.bytes.now (j * n + c.args.channel)) (sym two)

pub returns-else-channels-eq2-clause-values : goal.returns-else-channels-eq2-clause-values
returns-else-channels-eq2-clause-values c =
    λ j less.
    let there : j * c.args.channels + c.args.channel < c.args.frames * c.args.channels =
    omega (arith, place_inside j c.args.frames c.args.channels c.args.channel less c.requires.channel, mul_comm c.args.channels c.args.frames) in
    c.put_samples_of_any.ensures.values j less
    ∙ ap (work_value_of S16Le) (chunk_got (c.args.frames * c.args.channels) (j * c.args.channels + c.args.channel) c.args.bytes.now c.as_chunks-else-channels-eq2.result.0.now c.as_chunks-else-channels-eq2.ensures.front c.requires.whole there)
