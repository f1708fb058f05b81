use Rattle.std.proofs.Common.{◌≡◌, ℕ, ◌+◌, ◌*◌, ◌<◌, ◌≤◌, get_or, length, pos, All, w32, SFits}
use Rattle.std.specs.Prelude.{slice_index}
use Rattle.px_stream.proofs.values.scatter.Given as goal

abbrev pub invariant-loop-c : goal.invariant-loop-c
invariant-loop-c l = record {
  values : (b j : ℕ) → b < l.c → j < l.frames → get_or l.out (b * l.run + l.place + j) (pos 0) ≡ get_or l.values (j * l.channels + slice_index l.feed b) (pos 0);
  before : (b i : ℕ) → b < length l.feed → i < l.place → get_or l.out (b * l.run + i) (pos 0) ≡ get_or l.fn.out (b * l.run + i) (pos 0);
  after : (b i : ℕ) → b < length l.feed → l.place + l.frames ≤ i → i < l.run → get_or l.out (b * l.run + i) (pos 0) ≡ get_or l.fn.out (b * l.run + i) (pos 0);
  fit : All (SFits w32) l.fn.out → All (SFits w32) l.out;
}
