use Rattle.std.proofs.Common.{◌≡◌, ◌-◌, ◌≤◌, length, take}
use Rattle.px_ends.specs.Visible.{after_adding}
use Rattle.px_client.specs.Causes.{IsSound}
use Rattle.px_client.proofs.waiting.send_all.Given as goal

-- the bytes so far were sent
abbrev pub invariant-loop-sent : goal.invariant-loop-sent
invariant-loop-sent g l = record {
  added : g.L.Link.sent l.link ≡ after_adding (g.L.Link.sent l.fn.link) (take l.sent l.bytes);
  left : g.L.Link.left l.link ≡ g.L.Link.left l.fn.link;
  sound : IsSound (g.L.Link.counts l.fn.link) (g.L.Link.counts l.link);
  fit : l.sent ≤ length l.bytes;
}

abbrev pub decreases-loop-sent : goal.decreases-loop-sent
decreases-loop-sent g l = length l.bytes - l.sent
