use Rattle.std.proofs.Common.{◌≡◌, ◌≤◌, length, take}
use Rattle.px_tag.specs.PropList.{with_missing}
use Rattle.px_tag.proofs.proplist.PropList.set_missing.Given as goal

abbrev pub invariant-loop-i : goal.invariant-loop-i
invariant-loop-i l = record {
  set : l.self ≡ with_missing l.fn.self (take l.i l.other);
  front : take (length l.fn.self) l.self ≡ l.fn.self;
  longer : length l.fn.self ≤ length l.self;
}
