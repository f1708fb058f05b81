use Rattle.std.proofs.Common.{◌≡◌, ℕ, ◌<◌, ℤ, map, take, get_or}
use Rattle.px_sample.specs.Format.{width_of}
use Rattle.px_sample.specs.WorkValue.{work_value_of, IsWithin}
use Rattle.px_sample.proofs.coding.read_all.Given as goal

abbrev pub invariant-loop-place : goal.invariant-loop-place
invariant-loop-place g l = record {
  values : take l.place l.out ≡ map (work_value_of g.C.ReadSample.format) (take l.place l.samples);
  within : (k : ℕ) (d : ℤ) → k < l.place → IsWithin (width_of g.C.ReadSample.format) (get_or l.out k d);
}
