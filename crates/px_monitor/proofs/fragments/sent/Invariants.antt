use Rattle.std.proofs.Common.{◌≡◌, ◌++◌, drop}
use Rattle.px_monitor.specs.Fragments.{sent_of}
use Rattle.px_monitor.proofs.fragments.sent.Given as goal

-- the frames so far and those of the record streams that are left are all of them
abbrev pub invariant-loop-one : goal.invariant-loop-one
invariant-loop-one l = l.effects ++ sent_of l.sink l.bytes (drop l.one-index l.streams) ≡ sent_of l.sink l.bytes l.streams
