use Rattle.std.proofs.Common.{◌≡◌, ℕ, ◌+◌, ◌<◌, length, take, All, w32, SFits}
use Rattle.std.specs.List.{AllByRecursion}
use Rattle.px_msg.specs.View.{sample_spec}
use Rattle.px_mixcache.specs.Cache.{kept_at}
use Rattle.px_model.specs.Mix.{sum_of}
use Rattle.px_model.specs.Sink.{Input, streams_of}
use Rattle.px_kept_mix.specs.Kept.{IsSumOf}
use Rattle.px_kept_mix.specs.Keeping.{IsAsLarge, share_in}
use Rattle.px_stream.specs.Samples.{samples}
use Rattle.px_lane.specs.Inputs.{inputs_of}
use Rattle.px_ramp.specs.RampMix.{ramped_inputs}
use Rattle.px_ramp.proofs.mixing.add_all.Given as goal

abbrev pub invariant-loop-input : goal.invariant-loop-input
invariant-loop-input g l = record {
  large : IsAsLarge l.fn.cache l.cache;
  size : length l.values ≡ length l.fn.values;
  words : All (SFits w32) l.values;
  sums : (c k : ℕ) → c < l.sink.channels → k < l.count → kept_at l.cache c k ≡ sum_of samples (sample_spec l.sink) (streams_of (ramped_inputs l.frames (l.horizon + k) l.table.ramps (inputs_of (take l.input-index l.inputs)))) k c;
  little : (c k : ℕ) → c < l.sink.channels → k < l.count → AllByRecursion (λ x. IsSumOf 1 (share_in l.sink (Input.stream x) c k)) (ramped_inputs l.frames (l.horizon + k) l.table.ramps (inputs_of (take l.input-index l.inputs)));
}
