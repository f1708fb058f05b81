use Rattle.std.proofs.Common.{◌≡◌, ◌<◌, ◌≤◌, ℕ, ◌==◌, length}
use Rattle.std.specs.Prelude.{if◌then◌else◌}
use Rattle.px_vol.specs.Volume.{greatest}
use Rattle.px_flat.specs.Channels.{at}
use Rattle.px_flat.proofs.channels.widened.Given as goal

abbrev pub invariant-loop-c : goal.invariant-loop-c
invariant-loop-c l = record {
  is : (k : ℕ) → k < l.c → at l.values k ≡ (if length l.given == 1 then at l.given 0 else at l.given k);
  bounded : (k : ℕ) → k < l.c → at l.values k ≤ greatest;
}
