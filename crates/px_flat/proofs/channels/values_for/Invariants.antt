use Rattle.std.proofs.Common.{◌≡◌, ◌<◌, ◌≤◌, ℕ}
use Rattle.px_vol.specs.Volume.{greatest}
use Rattle.px_flat.specs.Channels.{at, value_for}
use Rattle.px_flat.proofs.channels.values_for.Given as goal

abbrev pub invariant-loop-c : goal.invariant-loop-c
invariant-loop-c l = record {
  is : (k : ℕ) → k < l.c → at l.values k ≡ value_for l.feed l.volumes k;
  bounded : (k : ℕ) → k < l.c → at l.values k ≤ greatest;
}
