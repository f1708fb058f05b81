use Rattle.std.proofs.Common.{◌≡◌, ◌*◌, take}
use Rattle.px_mixcache.specs.Packing.{stereo_frames}
use Rattle.px_mixcache.proofs.stereo.pack_rest.Given as goal

abbrev pub invariant-loop-k : goal.invariant-loop-k
invariant-loop-k l = take (l.k * 4) l.out ≡ stereo_frames l.left l.right 0 l.k
