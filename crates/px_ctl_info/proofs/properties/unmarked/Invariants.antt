use Rattle.std.proofs.Common.{◌≡◌, [], drop}
use Rattle.px_tag.specs.PropList.{with_all}
use Rattle.px_ctl_info.specs.Removed.{kept}
use Rattle.px_ctl_info.proofs.properties.unmarked.Given as goal

abbrev pub invariant-loop-place : goal.invariant-loop-place
invariant-loop-place l = with_all l.made (kept l.marks (drop l.place l.list)) ≡ with_all [] (kept l.marks l.list)
