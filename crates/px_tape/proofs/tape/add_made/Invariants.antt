use Rattle.std.proofs.Common.{◌≡◌, ◌+◌, ◌≤◌, ◌++◌, length, map}
use Rattle.std.specs.Prelude.{vec_len, vec_capacity}
use Rattle.px_tape.specs.declared.tape.Mark.TheVariants.{Made}
use Rattle.px_tape.proofs.tape.add_made.Given as goal

-- those that are added and those that are left are all
abbrev pub invariant-loop-event : goal.invariant-loop-event
invariant-loop-event l = record {
  room : vec_len l.marks + length l.left.items ≤ vec_capacity l.marks;
  marks : l.marks.items ++ map Made l.left.items ≡ l.fn.marks.items ++ map Made l.fn.events.items;
}

-- how many are left
abbrev pub decreases-loop-event : goal.decreases-loop-event
decreases-loop-event l = length l.left.items
