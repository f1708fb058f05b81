use Rattle.std.proofs.Common.{◌≡◌, ◌++◌, ◌-◌}
use Rattle.std.specs.Prelude.{replicate}
use Rattle.px_outcome.specs.declared.change.Change.TheVariants.{Released}
use Rattle.px_ctl_play.proofs.arrival.release.Given as goal

-- those so far and those that are left are all of them
abbrev pub invariant-loop : goal.invariant-loop
invariant-loop g l = l.changes.items ++ replicate (l.waited - l.counter) (Released l.index) ≡ l.fn.changes.items ++ replicate l.waited (Released l.index)
