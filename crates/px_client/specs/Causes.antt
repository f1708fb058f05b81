-- Why the client ends, and what its link did then.
use Rattle.std.specs.Prelude.{◌≡◌, ℕ, ◌+◌, ◌-◌, ◌^◌, ◌≤◌, ◌⊎◌, min, List, length, Option, Result, Ok, Err, ⊤}
use Rattle.px_types.specs.Faults.{Rose}
use Rattle.px_ends.specs.Links.{LinkCounts}
use Rattle.px_ends.specs.Bytes.{Departs, Adds}
use Rattle.px_ends.specs.Visible.{IsAtEnd}
use Rattle.px_frame.specs.declared.fault.FrameFault.{FrameFault}
use Rattle.px_frame.specs.Reading.{Unfinished, Broken}
use Rattle.px_frame.specs.Meaning.{frames_in, ending_in}
use Rattle.px_client.specs.declared.errand.Errand.{Errand}
use Rattle.px_client.specs.declared.awaited.Awaited.{Awaited}
use Rattle.px_client.specs.declared.end.ClientEnd.{ClientEnd}
use Rattle.px_client.specs.declared.end.ClientEnd.TheVariants as ends
use Rattle.px_client.specs.Dialogue.{Waiting, Refused, Astray, stage_of}

-- the most bytes that the client hears, 2^30
abbrev pub HEARD_MAX : ℕ
HEARD_MAX = 1073741824

-- how often in a row the link may answer that it isn't ready
abbrev pub PATIENCE : ℕ
PATIENCE = 1000000

-- ---- the received bytes

-- a reply is still awaited after the frames of these bytes, and they have a fault at this offset, or are as many as the client hears
pub record IsUnanswered (errand : Errand) (bytes : List ℕ) : Type 0 where
  pub awaited : Awaited
  pub waits : stage_of errand (frames_in bytes) ≡ Waiting awaited

abbrev pub IsFaulty : ℕ → List ℕ → Type 0
IsFaulty at bytes =
    ((fault : FrameFault) × (ending_in bytes ≡ Broken fault at))
    ⊎ ((ending_in bytes ≡ Unfinished) × (length bytes ≡ HEARD_MAX) × (at ≡ HEARD_MAX))

-- what the bytes that were received in a call say where the client ends so, before it has the last reply. Its failures of memory and of the
-- link have nothing to do with them
abbrev pub EndsBy : Errand → List ℕ → ClientEnd → Type 0
EndsBy errand bytes (ends.Denied code) = stage_of errand (frames_in bytes) ≡ Refused code
EndsBy errand bytes (ends.BadReply at) = (stage_of errand (frames_in bytes) ≡ Astray at) ⊎ (IsUnanswered errand bytes × IsFaulty at bytes)
EndsBy errand bytes ends.Gone = IsUnanswered errand bytes × (ending_in bytes ≡ Unfinished)
EndsBy errand bytes ends.Memory = ⊤
EndsBy errand bytes ends.Host = ⊤
EndsBy errand bytes ends.Silent = ⊤
EndsBy errand bytes ends.Ok = ⊥
EndsBy errand bytes ends.WriteFault = ⊥

-- ---- the link's counts

-- no call failed and none answered the end
pub record IsSound (before now : LinkCounts) : Type 0 where
  pub faults : now.faults ≡ before.faults
  pub ends : now.ends ≡ before.ends
  pub later : before.not_yets ≤ now.not_yets

pub record HasFailed (before now : LinkCounts) : Type 0 where
  pub faults : Rose before.faults now.faults
  pub ends : now.ends ≡ before.ends
  pub later : before.not_yets ≤ now.not_yets

pub record HasEnded (before now : LinkCounts) : Type 0 where
  pub faults : now.faults ≡ before.faults
  pub ends : Rose before.ends now.ends
  pub later : before.not_yets ≤ now.not_yets

-- the count rose by at least this number, or is at its last value
pub record RoseBy (n before now : ℕ) : Type 0 where
  pub later : before ≤ now
  pub more : min (before + n) (2 ^ 64 - 1) ≤ now

pub record IsSilent (before now : LinkCounts) : Type 0 where
  pub faults : now.faults ≡ before.faults
  pub ends : now.ends ≡ before.ends
  pub later : RoseBy PATIENCE before.not_yets now.not_yets

abbrev pub EndCounts : ClientEnd → LinkCounts → LinkCounts → Type 0
EndCounts ends.Host before now = HasFailed before now
EndCounts ends.Gone before now = HasEnded before now
EndCounts ends.Silent before now = IsSilent before now
EndCounts _ before now = IsSound before now

abbrev pub Counts : {X : Type 0} → Result X ClientEnd → LinkCounts → LinkCounts → Type 0
Counts (Ok x) before now = IsSound before now
Counts (Err end) before now = EndCounts end before now

-- ---- the calls that wait for the link

-- bytes moved into the front of the buffer, or none did
abbrev pub ReceiveGives : Result ℕ ClientEnd → List ℕ → Option (List ℕ) → Option (List ℕ) → Type 0
ReceiveGives (Ok n) buffer old new = Departs n buffer old new
ReceiveGives (Err ends.Gone) buffer old new = IsAtEnd old × (new ≡ old)
ReceiveGives (Err ends.Host) buffer old new = new ≡ old
ReceiveGives (Err ends.Silent) buffer old new = new ≡ old
ReceiveGives (Err _) buffer old new = ⊥

-- bytes were taken from the front of those given, or none were
abbrev pub SendGives : Result ℕ ClientEnd → List ℕ → Option (List ℕ) → Option (List ℕ) → Type 0
SendGives (Ok n) bytes old new = Adds n bytes old new
SendGives (Err ends.Host) bytes old new = new ≡ old
SendGives (Err ends.Silent) bytes old new = new ≡ old
SendGives (Err _) bytes old new = ⊥

-- a send ends by no other cause
abbrev pub SendFails : ClientEnd → Type 0
SendFails ends.Host = ⊤
SendFails ends.Silent = ⊤
SendFails _ = ⊥

-- the frames of a piece end nothing but for want of memory or a fault
abbrev pub HearFails : ClientEnd → Type 0
HearFails ends.Memory = ⊤
HearFails (ends.BadReply at) = ⊤
HearFails _ = ⊥
