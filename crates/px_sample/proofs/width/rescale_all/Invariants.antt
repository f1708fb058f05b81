use Rattle.std.proofs.Common.{◌≡◌, ℕ, ◌<◌, ◌≤◌, ℤ, map, take, get_or}
use Rattle.px_sample.specs.WorkValue.{at_width, IsWithin}
use Rattle.px_sample.proofs.width.rescale_all.Given as goal

abbrev pub invariant-loop-value : goal.invariant-loop-value
invariant-loop-value g l = record {
  values : take l.value-index l.values ≡ map (at_width g.R.Rescale.from g.R.Rescale.to) (take l.value-index l.fn.values);
  rest : (k : ℕ) (d : ℤ) → l.value-index ≤ k → get_or l.values k d ≡ get_or l.fn.values k d;
  within : (k : ℕ) (d : ℤ) → k < l.value-index → IsWithin g.R.Rescale.to (get_or l.values k d);
}
