use Rattle.std.proofs.Common.{◌≡◌, ◌+◌, ◌-◌, ◌^◌, ◌≤◌, length, min}
use Rattle.px_client.proofs.waiting.receive.Given as goal

-- nothing moved, and each call so far found the link not ready
abbrev pub invariant-loop : goal.invariant-loop
invariant-loop g l = record {
  left : g.L.Link.left l.link ≡ g.L.Link.left l.fn.link;
  sent : g.L.Link.sent l.link ≡ g.L.Link.sent l.fn.link;
  faults : (g.L.Link.counts l.link).faults ≡ (g.L.Link.counts l.fn.link).faults;
  ends : (g.L.Link.counts l.link).ends ≡ (g.L.Link.counts l.fn.link).ends;
  later : (g.L.Link.counts l.fn.link).not_yets ≤ (g.L.Link.counts l.link).not_yets;
  more : min ((g.L.Link.counts l.fn.link).not_yets + l.counter) (2 ^ 64 - 1) ≤ (g.L.Link.counts l.link).not_yets;
  room : length l.buffer ≡ length l.fn.buffer;
}
