use Rattle.std.proofs.Common.{◌≡◌, ◌<◌, ◌≤◌, ℕ}
use Rattle.px_vol.specs.Volume.{greatest}
use Rattle.px_flat.specs.Channels.{at, ratio_after}
use Rattle.px_flat.proofs.channels.ratios_after.Given as goal

abbrev pub invariant-loop-c : goal.invariant-loop-c
invariant-loop-c l = record {
  is : (k : ℕ) → k < l.c → at l.values k ≡ ratio_after (at l.ratios k) (at l.volumes k) (at l.bases k);
  bounded : (k : ℕ) → k < l.c → at l.values k ≤ greatest;
}
