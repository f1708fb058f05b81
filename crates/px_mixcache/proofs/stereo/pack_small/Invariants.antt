use Rattle.std.proofs.Common.{◌≡◌, ◌≤◌, ◌-◌, ◌*◌, length, take}
use Rattle.px_mixcache.specs.Packing.{stereo_frames}
use Rattle.px_mixcache.proofs.stereo.pack_small.Given as goal

abbrev pub invariant-loop-done : goal.invariant-loop-done
invariant-loop-done l = (l.done ≤ length l.left) × (take (l.done * 4) l.out ≡ stereo_frames l.left l.right 0 l.done)

abbrev pub decreases-loop-done : goal.decreases-loop-done
decreases-loop-done l = length l.left - l.done
