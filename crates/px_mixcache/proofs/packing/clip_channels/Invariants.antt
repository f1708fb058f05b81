use Rattle.std.proofs.Common.{◌≡◌, ℕ, ◌+◌, ◌*◌, ◌<◌, length, pos, get_or}
use Rattle.std.specs.Int.{saturate_signed}
use Rattle.px_sample.specs.WorkValue.{IsWithin}
use Rattle.px_kernel.specs.Kernel.{at, bits_of}
use Rattle.px_mixcache.specs.Cache.{run_at}
use Rattle.px_mixcache.proofs.packing.clip_channels.Given as goal

abbrev pub invariant-loop-c : goal.invariant-loop-c
invariant-loop-c g l = record {
  done : (c j : ℕ) → c < l.c → j < l.count → get_or l.values (j * length l.runs + c) (pos 0) ≡ saturate_signed (bits_of l.width) (at (run_at l.runs c).sums (l.from + j));
  within : (i : ℕ) → i < length l.values → IsWithin l.width (get_or l.values i (pos 0));
  ticks : l.steps ≡ l.fn.steps + l.c * l.count;
}
