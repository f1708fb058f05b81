use Rattle.std.proofs.Common.{◌≡◌, ◌<◌, ℕ}
use Rattle.std.specs.Prelude.{if◌then◌else◌}
use Rattle.px_flat.specs.Channels.{at}
use Rattle.px_flat.specs.Member.{factor_at}
use Rattle.px_flat.proofs.member.factors_under.Given as goal

abbrev pub invariant-loop-s : goal.invariant-loop-s
invariant-loop-s l = (k : ℕ) → k < l.s → at l.factors k ≡ (if l.silent then 0 else factor_at l.real l.member k)
