use Rattle.std.proofs.Common.{◌≡◌, ◌++◌, length}
use Rattle.px_monitor.specs.Fragments.{data_of}
use Rattle.px_monitor.proofs.fragments.push_data.Given as goal

-- the frames so far, and those of the bytes that are left
abbrev pub invariant-loop-rest : goal.invariant-loop-rest
invariant-loop-rest l = l.effects ++ data_of l.rest l.r ≡ l.fn.effects ++ data_of l.fn.bytes l.fn.r

abbrev pub decreases-loop-rest : goal.decreases-loop-rest
decreases-loop-rest l = length l.rest
