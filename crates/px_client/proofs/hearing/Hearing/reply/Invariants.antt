use Rattle.std.proofs.Common.{◌≡◌, ◌-◌, ◌≤◌, length}
use Rattle.px_client.specs.Causes.{HEARD_MAX, IsSound}
use Rattle.px_client.specs.Hearing.{HearsOn}
use Rattle.px_client.proofs.hearing.Hearing.reply.Given as goal

-- what came so far was heard, and all frames judged are messages
abbrev pub invariant-loop-count : goal.invariant-loop-count
invariant-loop-count g l = record {
  hears : HearsOn l.awaited l.fn.self l.self (g.L.Link.left l.fn.link) (g.L.Link.left l.link);
  sent : g.L.Link.sent l.link ≡ g.L.Link.sent l.fn.link;
  sound : IsSound (g.L.Link.counts l.fn.link) (g.L.Link.counts l.link);
  inside : l.self.next ≤ length l.self.frames;
}

abbrev pub decreases-loop-count : goal.decreases-loop-count
decreases-loop-count g l = HEARD_MAX - l.self.heard
