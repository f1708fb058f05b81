use Rattle.std.proofs.Common.{◌≡◌, ℕ, ◌+◌, ◌++◌, length}
use Rattle.px_tape.specs.Tape.{turns_in, total, at_sink, events_at}
use Rattle.px_tape.proofs.turns.add_all_left.Given as goal

-- those that are added and those that are left are all
abbrev pub invariant-loop-of_sink : goal.invariant-loop-of_sink
invariant-loop-of_sink l = record {
  count : turns_in l.events + total l.turns.items ≡ turns_in l.fn.events + total l.fn.turns.items;
  events : (at : ℕ) → at_sink at l.events ++ events_at at l.turns.items ≡ at_sink at l.fn.events ++ events_at at l.fn.turns.items;
}

-- how many sinks are left
abbrev pub decreases-loop-of_sink : goal.decreases-loop-of_sink
decreases-loop-of_sink l = length l.turns.items
