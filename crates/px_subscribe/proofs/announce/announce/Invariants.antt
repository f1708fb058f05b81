use Rattle.std.proofs.Common.{◌≡◌, ◌++◌, drop}
use Rattle.px_subscribe.specs.Announce.{announced}
use Rattle.px_subscribe.proofs.announce.announce.Given as goal

-- what was said so far, and to those who are left, is all
abbrev pub invariant-loop-one : goal.invariant-loop-one
invariant-loop-one l = l.sendings.items ++ announced (drop l.one-index l.subscribers) l.event ≡ l.fn.sendings.items ++ announced l.subscribers l.event
