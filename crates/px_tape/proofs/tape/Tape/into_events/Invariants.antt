use Rattle.std.proofs.Common.{◌≡◌, ℕ, ◌+◌, ◌++◌, length}
use Rattle.std.specs.List.{AllByRecursion}
use Rattle.px_tape.specs.Tape.{turns_in, total, at_sink, events_at, IsMark}
use Rattle.px_tape.proofs.tape.Tape.into_events.Given as goal

-- the turns that are added and those that are left are all
abbrev pub invariant-loop-mark : goal.invariant-loop-mark
invariant-loop-mark l = record {
  lawful : AllByRecursion IsMark l.left.items;
  turns : turns_in l.events + total l.turns.items ≡ total l.fn.turns.items;
  events : (at : ℕ) → at_sink at l.events ++ events_at at l.turns.items ≡ events_at at l.fn.turns.items;
}

-- how many places are left
abbrev pub decreases-loop-mark : goal.decreases-loop-mark
decreases-loop-mark l = length l.left.items
