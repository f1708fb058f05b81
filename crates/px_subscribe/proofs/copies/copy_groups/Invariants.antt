use Rattle.std.proofs.Common.{◌≡◌, take}
use Rattle.px_subscribe.proofs.copies.copy_groups.Given as goal

-- the groups up to the next one were copied
abbrev pub invariant-loop-group : goal.invariant-loop-group
invariant-loop-group l = l.copies.items ≡ take l.group-index l.groups
