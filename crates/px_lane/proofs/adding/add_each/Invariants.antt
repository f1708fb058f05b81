use Rattle.std.proofs.Common.{◌≡◌, ℕ, ◌+◌, ◌-◌, ◌*◌, ◌<◌, ◌≤◌, take}
use Rattle.std.specs.List.{AllByRecursion}
use Rattle.px_msg.specs.View.{sample_spec}
use Rattle.px_mixcache.specs.Cache.{kept_at}
use Rattle.px_model.specs.Mix.{sum_of}
use Rattle.px_model.specs.Sink.{Input, streams_of}
use Rattle.px_kept_mix.specs.Keeping.{IsAsLarge, share_in}
use Rattle.px_stream.specs.Samples.{samples}
use Rattle.px_kept_mix.specs.Kept.{IsSumOf}
use Rattle.px_lane.specs.Inputs.{inputs_of}
use Rattle.px_lane.proofs.adding.add_each.Given as goal

abbrev pub invariant-loop-input : goal.invariant-loop-input
invariant-loop-input g l = record {
  large : IsAsLarge l.fn.kept l.kept;
  low : (c k : ℕ) → c < l.sink.channels → k < l.from → kept_at l.kept c k ≡ kept_at l.fn.kept c k;
  high : (c k : ℕ) → c < l.sink.channels → l.from ≤ k → k < l.fn.kept.frames → kept_at l.kept c k ≡ sum_of samples (sample_spec l.sink) (streams_of (inputs_of (take l.input-index l.inputs))) k c;
  little : (c k : ℕ) → c < l.sink.channels → l.from ≤ k → k < l.fn.kept.frames → AllByRecursion (λ x. IsSumOf 1 (share_in l.sink (Input.stream x) c k)) (inputs_of (take l.input-index l.inputs));
  ticks : l.steps ≤ l.fn.steps + l.input-index * (2 * (l.sink.channels * (l.fn.kept.frames - l.from)));
}
