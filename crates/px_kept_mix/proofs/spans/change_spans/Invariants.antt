use Rattle.std.proofs.Common.{◌≡◌, ◌+◌, ◌-◌, ◌*◌, ◌≤◌, length, All, w32, FitsSigned}
use Rattle.px_kept_mix.specs.Keeping.{IsAsLarge, SharesBetween, AreLittle}
use Rattle.px_kept_mix.proofs.spans.change_spans.Given as goal

abbrev pub invariant-loop-at : goal.invariant-loop-at
invariant-loop-at g l = record {
  first : l.from ≤ l.at;
  last : l.at ≤ l.to;
  size : length l.values ≡ length l.fn.values;
  words : All (FitsSigned w32) l.values;
  large : IsAsLarge l.fn.cache l.cache;
  sums : SharesBetween l.add l.sink l.stream.stream l.from l.at l.fn.cache l.cache;
  little : AreLittle l.sink l.stream.stream l.from l.at;
  ticks : l.steps ≤ l.fn.steps + 2 * (l.sink.channels * (l.at - l.from));
}

abbrev pub decreases-loop-at : goal.decreases-loop-at
decreases-loop-at g l = l.to - l.at
