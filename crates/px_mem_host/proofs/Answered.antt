-- What a receive of a link in memory answers, by what its call was listed as.
use Rattle.std.proofs.Common.{◌≡◌, ℕ, Bool, true, false, sym}
use Rattle.std.specs.Prelude.{nat_le, if◌then◌else◌}
use Rattle.px_types.specs.Faults.{next_count}
use Rattle.px_ends.specs.declared.link.Recv.{Recv}
use Rattle.px_ends.specs.declared.link.Recv.TheVariants as recv
use Rattle.px_ends.specs.Memory.{is_listed, recv_from}
use Rattle.px_mem_host.specs.SharedLink.{SharedState, end_once, recv_answer}

-- the answer of a call that is listed as failing or as late or as neither
abbrev answer_by : Bool → Bool → Recv → Recv
answer_by failing late other = if failing then recv.Failed else if late then recv.NotYet else other

-- one that fails
pub failed : (l : SharedState) (room : ℕ) → is_listed l.failing (next_count l.calls) ≡ true → recv.Failed ≡ recv_answer l room
failed l room fails = sym (λ k. answer_by (fails k) (is_listed l.late (next_count l.calls)) (end_once (nat_le l.end_after l.sent) (recv_from l.left room)))

-- one that finds it not ready
pub late : (l : SharedState) (room : ℕ) → is_listed l.failing (next_count l.calls) ≡ false → is_listed l.late (next_count l.calls) ≡ true → recv.NotYet ≡ recv_answer l room
late l room goes waits = sym (λ k. answer_by (goes k) (waits k) (end_once (nat_le l.end_after l.sent) (recv_from l.left room)))
