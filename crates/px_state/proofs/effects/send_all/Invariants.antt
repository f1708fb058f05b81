use Rattle.std.proofs.Common.{◌≡◌, ◌++◌, drop}
use Rattle.px_state.specs.Outcome.{sent_all}
use Rattle.px_state.proofs.effects.send_all.Given as goal

-- the effects so far and those of the packets that are left are all of them
abbrev pub invariant-loop-one : goal.invariant-loop-one
invariant-loop-one l =
    l.effects ++ sent_all (drop l.one-index l.sendings) ≡ l.fn.effects ++ sent_all l.sendings
