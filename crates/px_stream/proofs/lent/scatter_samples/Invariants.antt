use Rattle.std.proofs.Common.{◌≡◌, ℕ, ◌+◌, ◌*◌, ◌<◌, ◌≤◌, get_or, length, pos, All, w32, SFits}
use Rattle.std.specs.Prelude.{slice_index}
use Rattle.px_stream.specs.Lent.{sample_at}
use Rattle.px_stream.proofs.lent.scatter_samples.Given as goal

abbrev pub invariant-loop-c : goal.invariant-loop-c
invariant-loop-c l = record {
  values : (b j : ℕ) → b < l.c → j < l.frames → get_or l.out (b * l.run + l.place + j) (pos 0) ≡ sample_at l.bytes (j * l.channels + slice_index l.feed b);
  before : (b i : ℕ) → b < length l.feed → i < l.place → get_or l.out (b * l.run + i) (pos 0) ≡ get_or l.fn.out (b * l.run + i) (pos 0);
  after : (b i : ℕ) → b < length l.feed → l.place + l.frames ≤ i → i < l.run → get_or l.out (b * l.run + i) (pos 0) ≡ get_or l.fn.out (b * l.run + i) (pos 0);
  fit : All (SFits w32) l.fn.out → All (SFits w32) l.out;
}
