use Rattle.std.proofs.Common.{◌≡◌, drop, false}
use Rattle.px_state.specs.State.{marked_of}
use Rattle.px_core.proofs.connecting.has_marked.Given as goal

-- while none has ended, those that are left have as many that have as all
abbrev pub invariant-loop-c : goal.invariant-loop-c
invariant-loop-c l = l.any ≡ false → marked_of (drop l.c-index l.connections) ≡ marked_of l.connections
