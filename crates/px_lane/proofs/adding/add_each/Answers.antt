use Rattle.std.proofs.Common.{◌≡◌, ℕ, ◌+◌, ◌-◌, ◌*◌, ◌<◌, List, length, take, refl, ap, sym, ◌∙◌, subst, arith, ℤ, ◌+ℤ◌}
use Rattle.std.specs.List.{AllByRecursion}
use Rattle.std.proofs.Math.Nat.{add-mul}
use Rattle.px_msg.specs.View.{sample_spec}
use Rattle.px_model.specs.Mix.{sum_of}
use Rattle.px_model.specs.Sink.{Input as Stands, streams_of}
use Rattle.px_mixcache.specs.Cache.{kept_at}
use Rattle.px_stream.specs.Samples.{samples}
use Rattle.px_kept_mix.specs.Kept.{IsSumOf}
use Rattle.px_kept_mix.proofs.Follows as follows
use Rattle.px_kept_mix.specs.Keeping.{share_in}
use Rattle.px_lane.specs.declared.input.Input.{Input}
use Rattle.px_lane.specs.Inputs.{input_of, inputs_of}
use Rattle.px_lane.proofs.Sharing.{fed_at}
use Rattle.px_lane.proofs.Growing.{put_before, put_behind, one_more_little, so_far_small, all_kept, front_more, front_few, front_all}
use Rattle.px_lane.proofs.adding.add_each.Goals as goal

pub loop-input-init : goal.loop-input-init
loop-input-init g c = record {
  large = record { depth = refl; frames = refl; channels = refl };
  low = λ i k fed less. refl;
  high = λ i k fed high less. c.requires.nothing i k fed high less;
  little = λ i k fed high less. tt;
  ticks = omega arith;
}

pub change-requires-clause-channels : goal.change-requires-clause-channels
change-requires-clause-channels g c = c.loop-input.invariant.large.channels ∙ c.requires.channels

pub change-requires-clause-fed : goal.change-requires-clause-fed
change-requires-clause-fed g c =
    subst (λ (x : Input). length x.stream.stream.feed ≡ c.args.sink.now.channels) (sym c.input-item.is)
    (fed_at c.args.sink.now.channels c.args.inputs.now c.loop-input.input-index c.input-item.result c.requires.mixes.fed (omega arith))

pub change-requires-clause-room : goal.change-requires-clause-room
change-requires-clause-room g c =
    let l = c.loop-input in
    so_far_small c.args.sink.now c.args.from c.args.kept.now.frames (inputs_of c.args.inputs.now) (inputs_of (take l.input-index c.args.inputs.now)) c.args.kept.now l.kept c.requires.before c.requires.mixes.few
    (front_few c.args.inputs.now l.input-index c.requires.mixes.few) (l.invariant.large.channels ∙ c.requires.channels) l.invariant.large.frames l.invariant.low l.invariant.high l.invariant.little

pub loop-input-preserved : goal.loop-input-preserved
loop-input-preserved g c =
    let l = c.loop-input in
    let x = c.input-item.result in
    let there : l.input-index < length c.args.inputs.now = omega arith in
    let front : inputs_of (take (l.input-index + 1) c.args.inputs.now) ≡ _ = front_more c.args.inputs.now l.input-index c.input-item.result there c.input-item.is in
    record {
      large = record {
        depth = c.change.ensures.large.depth ∙ l.invariant.large.depth;
        frames = c.change.ensures.large.frames ∙ l.invariant.large.frames;
        channels = c.change.ensures.large.channels ∙ l.invariant.large.channels;
      };
      low = λ i k fed less.
          c.change.ensures.sums i k (omega (arith, fed, l.invariant.large.channels, c.requires.channels)) (omega (arith, less, c.requires.from, l.invariant.large.frames))
          ∙ put_before c.args.from k (kept_at l.kept i k) (share_in c.args.sink.now c.input-item.result.stream.stream i k) less
          ∙ l.invariant.low i k fed less;
      high = λ i k fed high less.
          c.change.ensures.sums i k (omega (arith, fed, l.invariant.large.channels, c.requires.channels)) (omega (arith, less, l.invariant.large.frames))
          ∙ put_behind c.args.from k (kept_at l.kept i k) (share_in c.args.sink.now c.input-item.result.stream.stream i k) high
          ∙ ap (λ (z : ℤ). z +ℤ share_in c.args.sink.now c.input-item.result.stream.stream i k) (l.invariant.high i k fed high less)
          ∙ sym (follows.more samples (sample_spec c.args.sink.now) (inputs_of (take l.input-index c.args.inputs.now)) (input_of c.input-item.result) k i)
          ∙ ap (λ (xs : List Stands). sum_of samples (sample_spec c.args.sink.now) (streams_of xs) k i) (sym (front_more c.args.inputs.now l.input-index c.input-item.result there c.input-item.is));
      little = λ i k fed high less.
          subst (λ (xs : List Stands). AllByRecursion (λ y. IsSumOf 1 (share_in c.args.sink.now (Stands.stream y) i k)) xs) (sym (front_more c.args.inputs.now l.input-index c.input-item.result there c.input-item.is))
          (one_more_little c.args.sink.now i k (inputs_of (take l.input-index c.args.inputs.now)) (input_of c.input-item.result) (l.invariant.little i k fed high less)
          (c.change.ensures.little i k fed high (omega (arith, less, l.invariant.large.frames))));
      ticks = omega (
        arith,
        c.change.ensures.ticks,
        l.invariant.ticks,
        l.invariant.large.frames,
        add-mul l.input-index 1 (2 * (c.args.sink.now.channels * (c.args.kept.now.frames - c.args.from))),
        ap (λ (n : ℕ). c.args.sink.now.channels * (n - c.args.from)) l.invariant.large.frames,
      );
    }

pub returns-clause-kept : goal.returns-clause-kept
returns-clause-kept g c =
    let l = c.loop-input in
    let all : inputs_of (take l.input-index c.args.inputs.now) ≡ inputs_of c.args.inputs.now = front_all c.args.inputs.now l.input-index (omega arith) in
    all_kept c.args.sink.now c.args.from (inputs_of c.args.inputs.now) c.args.kept.now l.kept c.requires.before (l.invariant.large.channels ∙ c.requires.channels) l.invariant.low
    (λ i k fed high less. l.invariant.high i k fed high (omega (arith, less, l.invariant.large.frames)) ∙ ap (λ (xs : List Stands). sum_of samples (sample_spec c.args.sink.now) (streams_of xs) k i) all)
    (λ i k fed high less. subst (λ (xs : List Stands). AllByRecursion (λ y. IsSumOf 1 (share_in c.args.sink.now (Stands.stream y) i k)) xs) all (l.invariant.little i k fed high (omega (arith, less, l.invariant.large.frames))))
