use Rattle.std.proofs.Common.{◌≡◌, take}
use Rattle.std.specs.List.{flat_map}
use Rattle.px_ends.specs.Visible.{after_adding}
use Rattle.px_session.specs.Spelling.{event}
use Rattle.px_tape.specs.Tape.{form}
use Rattle.px_tape.proofs.events.write_events.Given as goal

-- the events so far were added, and no write has failed
abbrev pub invariant-loop-event : goal.invariant-loop-event
invariant-loop-event g l = record {
  added : g.K.Sink.held l.out ≡ after_adding (g.K.Sink.held l.fn.out) (flat_map (event form) (take l.event-index l.events));
  sound : g.K.Sink.faults l.out ≡ g.K.Sink.faults l.fn.out;
}
