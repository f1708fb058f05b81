use Rattle.std.proofs.Common.{◌≡◌, ◌++◌, length}
use Rattle.px_state.specs.Effect.{AreSendable}
use Rattle.px_sieve.specs.Scene.{shifted}
use Rattle.px_sieve.proofs.shift.shifted.Given as goal

-- those that were shown and those that are left are all of them
abbrev pub invariant-loop-effect : goal.invariant-loop-effect
invariant-loop-effect l = record {
  shown : l.all ++ shifted l.shift l.rest.items ≡ shifted l.shift l.fn.effects;
  sendable : AreSendable l.rest.items;
}

abbrev pub decreases-loop-effect : goal.decreases-loop-effect
decreases-loop-effect l = length l.rest.items
