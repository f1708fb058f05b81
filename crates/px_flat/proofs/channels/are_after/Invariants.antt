use Rattle.std.proofs.Common.{◌≡◌, ◌<◌, ℕ}
use Rattle.px_flat.specs.Channels.{at, value_for, ratio_after}
use Rattle.px_flat.proofs.channels.are_after.Given as goal

abbrev pub invariant-loop-c : goal.invariant-loop-c
invariant-loop-c l = (k : ℕ) → k < l.c → ratio_after (at l.ratios k) (at l.volumes k) (value_for l.feed l.bases k) ≡ at l.ratios k
