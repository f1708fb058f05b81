use Rattle.std.proofs.Common.{◌≡◌, ℕ, ◌+◌, ◌*◌, ◌<◌, ◌≤◌, get_or, [], take, drop, pos, All, w32, SFits}
use Rattle.px_sample.specs.declared.format.Format.TheVariants.{S16Le}
use Rattle.px_sample.specs.WorkValue.{work_value_of}
use Rattle.px_stream.proofs.lent.put_samples_of_two.Given as goal

abbrev pub invariant-loop-j : goal.invariant-loop-j
invariant-loop-j l = record {
  values : (i : ℕ) → i < l.j → get_or l.out (l.start + i) (pos 0) ≡ work_value_of S16Le (take 2 (drop (l.channel * 2) (get_or l.pairs i [])));
  before : (i : ℕ) → i < l.start → get_or l.out i (pos 0) ≡ get_or l.fn.out i (pos 0);
  after : (i : ℕ) → l.start + l.frames ≤ i → get_or l.out i (pos 0) ≡ get_or l.fn.out i (pos 0);
  fit : All (SFits w32) l.fn.out → All (SFits w32) l.out;
}
