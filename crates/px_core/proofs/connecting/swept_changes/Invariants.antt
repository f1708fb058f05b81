use Rattle.std.proofs.Common.{◌≡◌, ◌++◌, drop, flat_map}
use Rattle.px_state.specs.State.{marked_of}
use Rattle.px_core.specs.Connecting.{swept}
use Rattle.px_core.proofs.connecting.swept_changes.Given as goal

-- the changes so far and those of the connections that are left are all of them
abbrev pub invariant-loop-c : goal.invariant-loop-c
invariant-loop-c g l =
    l.changes.items ++ flat_map (swept l.inputs) (marked_of (drop l.c-index l.connections)) ≡ flat_map (swept l.inputs) (marked_of l.connections)
