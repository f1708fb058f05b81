use Rattle.std.proofs.Common.{◌≡◌, length}
use Rattle.px_state.specs.Change.{committed}
use Rattle.px_state.specs.Tables.{state_of, HasRoom}
use Rattle.px_state.proofs.commit.commit.Given as goal

-- the changes so far and those that are left are all of them
abbrev pub invariant-loop-change : goal.invariant-loop-change
invariant-loop-change g l = record {
  state : committed (state_of l.tables) l.changes.items ≡ committed (state_of l.fn.tables) l.fn.changes.items;
  room : HasRoom (length l.changes.items) l.tables;
}

abbrev pub decreases-loop-change : goal.decreases-loop-change
decreases-loop-change g l = length l.changes.items
