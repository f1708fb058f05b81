use Rattle.std.proofs.Common.{◌≡◌, ◌++◌, drop}
use Rattle.px_subscribe.specs.Moments.{subscribers_in}
use Rattle.px_subscribe.proofs.moments.subscribers_in.Given as goal

-- those that were added so far, and those that are left, are all
abbrev pub invariant-loop-c : goal.invariant-loop-c
invariant-loop-c l = l.all.items ++ subscribers_in l.clients (drop l.c-index l.connections) ≡ subscribers_in l.clients l.connections
