-- How the answers of a link's calls relate to its bytes and its three counts.
use Rattle.std.specs.Prelude.{◌≡◌, ℕ, List, Option}
use Rattle.px_ends.specs.declared.link.Recv.{Recv}
use Rattle.px_ends.specs.declared.link.Recv.TheVariants as recv
use Rattle.px_ends.specs.declared.link.Sent.{Sent}
use Rattle.px_ends.specs.declared.link.Sent.TheVariants as sent
use Rattle.px_ends.specs.Visible.{IsAtEnd}
use Rattle.px_types.specs.Faults.{Rose}
use Rattle.px_ends.specs.Bytes.{Departs, Adds}

-- how often a call failed, answered the end, or found the link not ready
pub record LinkCounts : Type 0 where
  pub faults : ℕ
  pub ends : ℕ
  pub not_yets : ℕ

-- the counts before any call
abbrev pub no_counts : LinkCounts
no_counts = record { faults = 0; ends = 0; not_yets = 0 }

abbrev pub RecvGives : Recv → List ℕ → Option (List ℕ) → Option (List ℕ) → Type 0
RecvGives (recv.Bytes n) buffer old new = Departs n buffer old new
RecvGives recv.End buffer old new = IsAtEnd old × (new ≡ old)
RecvGives recv.NotYet buffer old new = new ≡ old
RecvGives recv.Failed buffer old new = new ≡ old

abbrev pub SendTakes : Sent → List ℕ → Option (List ℕ) → Option (List ℕ) → Type 0
SendTakes (sent.Bytes n) bytes old new = Adds n bytes old new
SendTakes sent.NotYet bytes old new = new ≡ old
SendTakes sent.Failed bytes old new = new ≡ old

-- one count rose, and the others are unchanged
abbrev pub OneFault : LinkCounts → LinkCounts → Type 0
OneFault before now = Rose before.faults now.faults × (now.ends ≡ before.ends) × (now.not_yets ≡ before.not_yets)

abbrev pub OneEnd : LinkCounts → LinkCounts → Type 0
OneEnd before now = Rose before.ends now.ends × (now.faults ≡ before.faults) × (now.not_yets ≡ before.not_yets)

abbrev pub OneNotYet : LinkCounts → LinkCounts → Type 0
OneNotYet before now = Rose before.not_yets now.not_yets × (now.faults ≡ before.faults) × (now.ends ≡ before.ends)

abbrev pub RecvCounts : Recv → LinkCounts → LinkCounts → Type 0
RecvCounts (recv.Bytes n) before now = now ≡ before
RecvCounts recv.End before now = OneEnd before now
RecvCounts recv.NotYet before now = OneNotYet before now
RecvCounts recv.Failed before now = OneFault before now

abbrev pub SendCounts : Sent → LinkCounts → LinkCounts → Type 0
SendCounts (sent.Bytes n) before now = now ≡ before
SendCounts sent.NotYet before now = OneNotYet before now
SendCounts sent.Failed before now = OneFault before now
