use Rattle.std.proofs.Common.{◌≡◌, ◌≤◌, take}
use Rattle.px_vol.specs.Volume.{greatest}
use Rattle.px_flat.specs.FlatVolume.{real_at}
use Rattle.px_flat.proofs.members.real_at.Given as goal

abbrev pub invariant-loop-member : goal.invariant-loop-member
invariant-loop-member l = record {
  is : l.loudest ≡ real_at (take l.member-index l.members) l.s;
  bounded : l.loudest ≤ greatest;
}
