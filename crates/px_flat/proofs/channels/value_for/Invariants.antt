use Rattle.std.proofs.Common.{◌≡◌, ◌≤◌, ◌==◌}
use Rattle.std.specs.Prelude.{if◌then◌else◌}
use Rattle.px_vol.specs.Volume.{greatest}
use Rattle.px_flat.specs.Channels.{at, per_channel, greatest_of}
use Rattle.px_flat.proofs.channels.value_for.Given as goal

abbrev pub invariant-loop-s : goal.invariant-loop-s
invariant-loop-s l = record {
  is : l.loudest ≡ greatest_of (per_channel l.s (λ s. if at l.feed s == l.channel then at l.volumes s else 0));
  bounded : l.loudest ≤ greatest;
}
