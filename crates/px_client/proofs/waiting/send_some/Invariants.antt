use Rattle.std.proofs.Common.{◌≡◌, ◌+◌, ◌-◌, ◌^◌, ◌≤◌, min}
use Rattle.px_client.proofs.waiting.send_some.Given as goal

-- nothing was taken, and each call so far found the link not ready
abbrev pub invariant-loop : goal.invariant-loop
invariant-loop g l = record {
  left : g.L.Link.left l.link ≡ g.L.Link.left l.fn.link;
  sent : g.L.Link.sent l.link ≡ g.L.Link.sent l.fn.link;
  faults : (g.L.Link.counts l.link).faults ≡ (g.L.Link.counts l.fn.link).faults;
  ends : (g.L.Link.counts l.link).ends ≡ (g.L.Link.counts l.fn.link).ends;
  later : (g.L.Link.counts l.fn.link).not_yets ≤ (g.L.Link.counts l.link).not_yets;
  more : min ((g.L.Link.counts l.fn.link).not_yets + l.counter) (2 ^ 64 - 1) ≤ (g.L.Link.counts l.link).not_yets;
}
