use Rattle.std.proofs.Common.{◌≡◌, ◌++◌, ◌≤◌, ◌-◌}
use Rattle.px_subscribe.specs.Walk.{events_in}
use Rattle.px_subscribe.proofs.walk.add_searched.Given as goal

-- the events of the objects below the next one were added
abbrev pub invariant-loop-from : goal.invariant-loop-from
invariant-loop-from g l = record {
  told : l.events.items ≡ l.fn.events.items ++ events_in l.facility g.I.Object.index_of g.I.Object.bytes_of l.before l.after l.from;
  few : l.from ≤ l.given;
}

abbrev pub decreases-loop-from : goal.decreases-loop-from
decreases-loop-from g l = l.given - l.from
