use Rattle.std.proofs.Common.{◌≡◌, ◌+◌, ◌-◌, ◌*◌, ◌≤◌, length, map, take}
use Rattle.std.specs.List.{concat, range_with_len}
use Rattle.px_mixcache.specs.Packing.{frame_of}
use Rattle.px_mixcache.proofs.packing.pack_stretches.Given as goal

abbrev pub invariant-loop-done : goal.invariant-loop-done
invariant-loop-done g l = record {
  few : l.done ≤ l.frames;
  bytes : take (l.done * l.size) l.out ≡ concat (map (frame_of l.format l.runs) (range_with_len l.from l.done));
  ticks : l.steps ≡ l.fn.steps + length l.runs * l.done;
}

abbrev pub decreases-loop-done : goal.decreases-loop-done
decreases-loop-done g l = l.frames - l.done
