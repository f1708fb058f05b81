use Rattle.std.proofs.Common.{◌≡◌, ◌++◌, ◌≤◌, ◌-◌, drop}
use Rattle.px_subscribe.specs.Walk.{events_in, RisesFrom}
use Rattle.px_subscribe.proofs.walk.add_rising.Given as goal

-- what was added so far, and the events of the objects that are left, are all
abbrev pub invariant-loop-from : goal.invariant-loop-from
invariant-loop-from g l = record {
  told : l.events.items ++ events_in l.facility g.I.Object.index_of g.I.Object.bytes_of (drop l.b l.before) (drop l.a l.after) l.given
      ≡ l.fn.events.items ++ events_in l.facility g.I.Object.index_of g.I.Object.bytes_of l.before l.after l.given;
  before : RisesFrom g.I.Object.index_of l.from (drop l.b l.before);
  after : RisesFrom g.I.Object.index_of l.from (drop l.a l.after);
  few : l.from ≤ l.given;
}

abbrev pub decreases-loop-from : goal.decreases-loop-from
decreases-loop-from g l = l.given - l.from
