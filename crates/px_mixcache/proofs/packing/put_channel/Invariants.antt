use Rattle.std.proofs.Common.{◌≡◌, ◌≢◌, ℕ, ◌+◌, ◌*◌, ◌%◌, ◌<◌, length, pos, get_or}
use Rattle.px_sample.specs.WorkValue.{IsWithin}
use Rattle.px_mixcache.proofs.packing.put_channel.Given as goal

abbrev pub invariant-loop-j : goal.invariant-loop-j
invariant-loop-j l = record {
  done : (k : ℕ) → k < l.j → get_or l.values (k * l.channels + l.channel) (pos 0) ≡ get_or l.from k (pos 0);
  others : (i : ℕ) → i % l.channels ≢ l.channel → get_or l.values i (pos 0) ≡ get_or l.fn.values i (pos 0);
  within : (i : ℕ) → i < length l.values → IsWithin l.fn.width (get_or l.values i (pos 0));
}
