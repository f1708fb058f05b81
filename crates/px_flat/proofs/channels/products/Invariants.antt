use Rattle.std.proofs.Common.{◌≡◌, ◌<◌, ◌≤◌, ℕ}
use Rattle.px_vol.specs.Volume.{greatest, product_of}
use Rattle.px_flat.specs.Channels.{at}
use Rattle.px_flat.proofs.channels.products.Given as goal

abbrev pub invariant-loop-c : goal.invariant-loop-c
invariant-loop-c l = record {
  is : (k : ℕ) → k < l.c → at l.values k ≡ product_of (at l.ratios k) (at l.volumes k);
  bounded : (k : ℕ) → k < l.c → at l.values k ≤ greatest;
}
