use Rattle.std.proofs.Common.{◌≡◌, ◌++◌, drop}
use Rattle.px_subscribe.specs.Announce.{announced_all}
use Rattle.px_subscribe.proofs.announce.announce_all.Given as goal

-- what was said so far, and of the events that are left, is all
abbrev pub invariant-loop-event : goal.invariant-loop-event
invariant-loop-event l = l.sendings.items ++ announced_all l.subscribers (drop l.event-index l.events) ≡ announced_all l.subscribers l.events
