use Rattle.std.proofs.Common.{◌≡◌, take}
use Rattle.std.specs.List.{flat_map}
use Rattle.px_ends.specs.Visible.{after_adding}
use Rattle.px_session.specs.Spelling.{sink}
use Rattle.px_session.proofs.writer.write_sinks.Given as goal

-- the sinks so far were added, and no write has failed
abbrev pub invariant-loop-s : goal.invariant-loop-s
invariant-loop-s g l = record {
  added : g.K.Sink.held l.out ≡ after_adding (g.K.Sink.held l.fn.out) (flat_map sink (take l.s-index l.sinks));
  sound : g.K.Sink.faults l.out ≡ g.K.Sink.faults l.fn.out;
}
