use Rattle.std.proofs.Common.{◌≡◌, ◌*◌, take}
use Rattle.px_sample.specs.WorkValue.{packed_of}
use Rattle.px_sample.proofs.coding.write_all.Given as goal

abbrev pub invariant-loop-place : goal.invariant-loop-place
invariant-loop-place g l = take (l.place * g.row.SIZE) l.out ≡ packed_of g.C.WriteSample.format (take l.place l.values)
