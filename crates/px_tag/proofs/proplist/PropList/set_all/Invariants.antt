use Rattle.std.proofs.Common.{◌≡◌, take}
use Rattle.px_tag.specs.PropList.{with_all}
use Rattle.px_tag.proofs.proplist.PropList.set_all.Given as goal

abbrev pub invariant-loop-i : goal.invariant-loop-i
invariant-loop-i l = l.self ≡ with_all l.fn.self (take l.i l.other)
