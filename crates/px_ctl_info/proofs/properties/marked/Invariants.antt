use Rattle.std.proofs.Common.{◌≡◌, [], drop}
use Rattle.px_ctl_info.specs.Removed.{marked}
use Rattle.px_ctl_info.proofs.properties.marked.Given as goal

abbrev pub invariant-loop-key : goal.invariant-loop-key
invariant-loop-key l = marked l.marks (drop l.key-index l.keys) ≡ marked [] l.keys
