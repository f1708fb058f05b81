use Rattle.std.proofs.Common.{◌≡◌, ◌<◌, ◌≤◌, ℕ}
use Rattle.px_vol.specs.Volume.{greatest}
use Rattle.px_flat.specs.Channels.{at}
use Rattle.px_flat.specs.FlatVolume.{real_at}
use Rattle.px_flat.proofs.members.real_of.Given as goal

abbrev pub invariant-loop-c : goal.invariant-loop-c
invariant-loop-c l = record {
  is : (k : ℕ) → k < l.c → at l.values k ≡ real_at l.members k;
  bounded : (k : ℕ) → k < l.c → at l.values k ≤ greatest;
}
