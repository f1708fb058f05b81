use Rattle.std.proofs.Common.{◌≡◌, ◌++◌, drop, filter, flat_map}
use Rattle.px_state.specs.State.{is_from}
use Rattle.px_core.specs.Connecting.{ends}
use Rattle.px_core.proofs.connecting.add_streams.Given as goal

-- the changes so far and those of the inputs that are left are all of them
abbrev pub invariant-loop-input : goal.invariant-loop-input
invariant-loop-input g l =
    l.changes.items ++ flat_map ends (filter (is_from l.conn) (drop l.input-index l.inputs)) ≡ l.fn.changes.items ++ flat_map ends (filter (is_from l.conn) l.inputs)
