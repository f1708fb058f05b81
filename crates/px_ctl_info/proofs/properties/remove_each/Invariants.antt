use Rattle.std.proofs.Common.{◌≡◌, drop}
use Rattle.px_ctl_info.specs.Properties.{without_keys}
use Rattle.px_ctl_info.proofs.properties.remove_each.Given as goal

abbrev pub invariant-loop-key : goal.invariant-loop-key
invariant-loop-key l = without_keys l.list (drop l.key-index l.keys) ≡ without_keys l.fn.list l.keys
