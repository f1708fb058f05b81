use Rattle.std.proofs.Common.{◌≡◌, drop}
use Rattle.px_monitor.specs.Monitor.{records_seen}
use Rattle.px_monitor.proofs.parts.drop_closed.Given as goal

-- what the effects that are left close is dropped from what is left
abbrev pub invariant-loop-effect : goal.invariant-loop-effect
invariant-loop-effect l = records_seen (drop l.effect-index l.effects) l.records ≡ records_seen l.effects l.fn.records
