use Rattle.std.proofs.Common.{◌≡◌, ℕ, ◌+◌, ◌<◌, ◌≤◌, ◌+ℤ◌, length, All, w32, SFits}
use Rattle.px_model.specs.Control.{with_factors}
use Rattle.px_mixcache.specs.Cache.{kept_at}
use Rattle.px_kept_mix.specs.Kept.{IsSumOf}
use Rattle.px_kept_mix.specs.Keeping.{IsAsLarge, share_in}
use Rattle.px_ramp.specs.RampMix.{values_at}
use Rattle.px_ramp.proofs.shares.add_each.Given as goal

abbrev pub invariant-loop-k : goal.invariant-loop-k
invariant-loop-k g l = record {
  size : length l.values ≡ length l.fn.values;
  words : All (SFits w32) l.values;
  large : IsAsLarge l.fn.cache l.cache;
  added : (c j : ℕ) → c < l.sink.channels → j < l.k → kept_at l.cache c j ≡ kept_at l.fn.cache c j +ℤ share_in l.sink (with_factors l.stream.stream (values_at l.frames (l.horizon + j) l.ramps)) c j;
  rest : (c j : ℕ) → c < l.sink.channels → l.k ≤ j → j < l.count → kept_at l.cache c j ≡ kept_at l.fn.cache c j;
  little : (c j : ℕ) → c < l.sink.channels → j < l.k → IsSumOf 1 (share_in l.sink (with_factors l.stream.stream (values_at l.frames (l.horizon + j) l.ramps)) c j);
}
