use Rattle.std.proofs.Common.{◌≡◌, ◌<◌, ◌^◌, drop}
use Rattle.px_subscribe.specs.Walk.{next_in}
use Rattle.px_subscribe.proofs.walk.next_in.Given as goal

-- those that are left give, from the nearest so far on, what all give; that is an index, or the end
abbrev pub invariant-loop-info : goal.invariant-loop-info
invariant-loop-info g l = (next_in g.I.Object.index_of (drop l.info-index l.infos) l.from l.next ≡ next_in g.I.Object.index_of l.infos l.from l.end) × (l.next < l.end → l.next < 2 ^ 32)
