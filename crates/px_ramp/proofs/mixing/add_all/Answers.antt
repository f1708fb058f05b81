use Rattle.std.proofs.Common.{◌≡◌, ◌<◌, ◌+◌, List, length, take, refl, ap, sym, ◌∙◌, subst, arith, ℤ, ◌+ℤ◌}
use Rattle.std.specs.List.{AllByRecursion}
use Rattle.std.proofs.lemmas.List.{length-map}
use Rattle.px_msg.specs.View.{sample_spec}
use Rattle.px_model.specs.Mix.{sum_of}
use Rattle.px_model.specs.Sink.{Input as Stands, streams_of}
use Rattle.px_stream.specs.Samples.{samples}
use Rattle.px_kept_mix.specs.Kept.{IsSumOf}
use Rattle.px_kept_mix.proofs.Follows as follows
use Rattle.px_kept_mix.specs.Keeping.{share_in}
use Rattle.px_lane.specs.declared.input.Input.{Input}
use Rattle.px_lane.specs.Inputs.{input_of, inputs_of}
use Rattle.px_lane.proofs.Sharing.{fed_at}
use Rattle.px_lane.proofs.Growing.{one_more_little, front_few, front_all}
use Rattle.px_ramp.specs.RampMix.{ramped_input, ramped_inputs}
use Rattle.px_ramp.proofs.Packing.{ramped_more, small_so_far}
use Rattle.px_ramp.proofs.mixing.add_all.Goals as goal

pub loop-input-init : goal.loop-input-init
loop-input-init g c = record {
  large = record { depth = refl; frames = refl; channels = refl };
  size = refl;
  words = c.requires.words;
  sums = λ i k fed less. c.requires.nothing i k fed less;
  little = λ i k fed less. tt;
}

pub add_input-requires-clause-channels : goal.add_input-requires-clause-channels
add_input-requires-clause-channels g c = c.loop-input.invariant.large.channels ∙ c.requires.channels

pub add_input-requires-clause-whole : goal.add_input-requires-clause-whole
add_input-requires-clause-whole g c = c.loop-input.invariant.large.frames ∙ c.requires.whole

pub add_input-requires-clause-fed : goal.add_input-requires-clause-fed
add_input-requires-clause-fed g c =
    subst (λ (x : Input). length x.stream.stream.feed ≡ c.args.sink.now.channels) (sym c.input-item.is)
    (fed_at c.args.sink.now.channels c.args.inputs.now c.loop-input.input-index c.input-item.result c.requires.fed (omega arith))

pub add_input-requires-clause-room : goal.add_input-requires-clause-room
add_input-requires-clause-room g c =
    let l = c.loop-input in
    small_so_far c.args.sink.now c.args.count (λ k. ramped_inputs c.args.frames (c.args.horizon + k) c.args.table.now.ramps (inputs_of (take l.input-index c.args.inputs.now))) l.cache
    (λ k. omega (arith, length-map (inputs_of (take l.input-index c.args.inputs.now)) (ramped_input c.args.frames (c.args.horizon + k) c.args.table.now.ramps), front_few c.args.inputs.now l.input-index c.requires.few))
    (l.invariant.large.channels ∙ c.requires.channels) (l.invariant.large.frames ∙ c.requires.whole) l.invariant.sums l.invariant.little

pub loop-input-preserved : goal.loop-input-preserved
loop-input-preserved g c =
    let l = c.loop-input in
    let there : l.input-index < length c.args.inputs.now = omega arith in
    record {
      large = record {
        depth = c.add_input.ensures.large.depth ∙ l.invariant.large.depth;
        frames = c.add_input.ensures.large.frames ∙ l.invariant.large.frames;
        channels = c.add_input.ensures.large.channels ∙ l.invariant.large.channels;
      };
      size = c.add_input.ensures.size ∙ l.invariant.size;
      words = c.add_input.ensures.words;
      sums = λ i k fed less.
          c.add_input.ensures.sums i k fed less
          ∙ ap (λ (z : ℤ). z +ℤ share_in c.args.sink.now (Stands.stream (ramped_input c.args.frames (c.args.horizon + k) c.args.table.now.ramps (input_of c.input-item.result))) i k) (l.invariant.sums i k fed less)
          ∙ sym (follows.more samples (sample_spec c.args.sink.now) (ramped_inputs c.args.frames (c.args.horizon + k) c.args.table.now.ramps (inputs_of (take l.input-index c.args.inputs.now)))
          (ramped_input c.args.frames (c.args.horizon + k) c.args.table.now.ramps (input_of c.input-item.result)) k i)
          ∙ ap (λ (xs : List Stands). sum_of samples (sample_spec c.args.sink.now) (streams_of xs) k i)
          (sym (ramped_more c.args.frames (c.args.horizon + k) c.args.table.now.ramps c.args.inputs.now l.input-index c.input-item.result there c.input-item.is));
      little = λ i k fed less.
          subst (λ (xs : List Stands). AllByRecursion (λ y. IsSumOf 1 (share_in c.args.sink.now (Stands.stream y) i k)) xs)
          (sym (ramped_more c.args.frames (c.args.horizon + k) c.args.table.now.ramps c.args.inputs.now l.input-index c.input-item.result there c.input-item.is))
          (one_more_little c.args.sink.now i k (ramped_inputs c.args.frames (c.args.horizon + k) c.args.table.now.ramps (inputs_of (take l.input-index c.args.inputs.now)))
          (ramped_input c.args.frames (c.args.horizon + k) c.args.table.now.ramps (input_of c.input-item.result)) (l.invariant.little i k fed less) (c.add_input.ensures.little i k fed less));
    }

pub returns-clause-sums : goal.returns-clause-sums
returns-clause-sums g c = λ i k fed less.
    let l = c.loop-input in
    let all : inputs_of (take l.input-index c.args.inputs.now) ≡ inputs_of c.args.inputs.now = front_all c.args.inputs.now l.input-index (omega arith) in
    l.invariant.sums i k fed less
    ∙ ap (λ (xs : List Stands). sum_of samples (sample_spec c.args.sink.now) (streams_of (ramped_inputs c.args.frames (c.args.horizon + k) c.args.table.now.ramps xs)) k i) all
