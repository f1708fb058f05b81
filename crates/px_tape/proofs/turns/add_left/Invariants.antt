use Rattle.std.proofs.Common.{◌≡◌, ◌+◌, ◌++◌, length}
use Rattle.px_tape.specs.Tape.{turns_in, events_in}
use Rattle.px_tape.proofs.turns.add_left.Given as goal

-- those that are added and those that are left are all
abbrev pub invariant-loop-turn : goal.invariant-loop-turn
invariant-loop-turn l = record {
  count : turns_in l.events + length l.turns.turns ≡ turns_in l.fn.events + length l.fn.turns.turns;
  events : l.events ++ events_in l.turns ≡ l.fn.events ++ events_in l.fn.turns;
}

-- how many are left
abbrev pub decreases-loop-turn : goal.decreases-loop-turn
decreases-loop-turn l = length l.turns.turns
