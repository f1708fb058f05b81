use Rattle.std.proofs.Common.{◌≡◌, ◌++◌, drop}
use Rattle.px_state.specs.Outcome.{closed_all}
use Rattle.px_state.proofs.effects.close_all.Given as goal

-- the effects so far and those of the changes that are left are all of them
abbrev pub invariant-loop-change : goal.invariant-loop-change
invariant-loop-change g l =
    l.effects ++ closed_all (drop l.change-index l.changes) ≡ l.fn.effects ++ closed_all l.changes
