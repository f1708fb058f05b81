use Rattle.std.proofs.Common.{length, ◌-◌, ◌≡◌, ◌≤◌, take}
use Rattle.px_ends.specs.Visible.{after_adding}
use Rattle.px_ends.proofs.whole.write_all.Given as goal

-- what is written so far was added, and no write has failed
abbrev pub invariant-loop-written : goal.invariant-loop-written
invariant-loop-written g l = record {
  added : g.K.Sink.held l.sink ≡ after_adding (g.K.Sink.held l.fn.sink) (take l.written l.bytes);
  sound : g.K.Sink.faults l.sink ≡ g.K.Sink.faults l.fn.sink;
  fit : l.written ≤ length l.bytes;
}

abbrev pub decreases-loop-written : goal.decreases-loop-written
decreases-loop-written g l = length l.bytes - l.written
