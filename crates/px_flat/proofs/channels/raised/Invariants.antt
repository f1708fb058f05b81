use Rattle.std.proofs.Common.{◌≡◌, ◌<◌, ◌≤◌, ℕ}
use Rattle.std.specs.Prelude.{max}
use Rattle.px_vol.specs.Volume.{greatest}
use Rattle.px_flat.specs.Channels.{at}
use Rattle.px_flat.proofs.channels.raised.Given as goal

abbrev pub invariant-loop-c : goal.invariant-loop-c
invariant-loop-c l = record {
  is : (k : ℕ) → k < l.c → at l.values k ≡ max (at l.volumes k) (at l.others k);
  bounded : (k : ℕ) → k < l.c → at l.values k ≤ greatest;
}
