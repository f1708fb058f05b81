-- A host in memory. All its calls that can fail are counted together, from 1, and the numbers of those that will fail are listed. Own.
use Rattle.std.specs.Prelude.{◌≡◌, ℕ, Bool, true, false, List, [], ◌∷◌, Some, ◌⊎◌, Result, Ok, Err}
use Rattle.px_annals.specs.declared.entry.LaneEntry.{LaneEntry}
use Rattle.px_annals.specs.declared.entry.CoreEntry.{CoreEntry}
use Rattle.px_annals.specs.History.{Limit}
use Rattle.px_annals.specs.Memory.{MemoryRecorder}
use Rattle.px_ends.specs.declared.host.HeaderRead.{HeaderRead}
use Rattle.px_ends.specs.declared.host.HeaderRead.TheVariants as read
use Rattle.px_ends.specs.declared.host.Accepted.{Accepted}
use Rattle.px_ends.specs.declared.host.Accepted.TheVariants as accepted
use Rattle.px_ends.specs.declared.host.Connected.{Connected}
use Rattle.px_ends.specs.declared.host.Connected.TheVariants as connected
use Rattle.px_ends.specs.declared.host.HostFault.{HostFault}
use Rattle.px_ends.specs.declared.host.HostFault.TheVariants as fault
use Rattle.px_ends.specs.Host.{HostState, DialState}
use Rattle.px_ends.specs.Memory.{is_listed}
use Rattle.px_ends.specs.MemoryDevice.{MemoryDevice}
use Rattle.px_types.specs.Faults.{next_count}
use Rattle.px_mem_host.specs.declared.plan.LinkPlan.{LinkPlan}
use Rattle.px_mem_host.specs.declared.plan.DialPlan.{DialPlan}
use Rattle.px_mem_host.specs.declared.host_link.HostLink.{HostLink}
use Rattle.px_mem_host.specs.declared.host_link.HostLink.TheVariants.{Client, Dialled}
use Rattle.px_mem_host.specs.SharedLink.{new_link}
use Rattle.px_mem_host.specs.HostLink.{new_dialled}

abbrev pub TheState : Type 0
TheState = HostState MemoryDevice (MemoryRecorder LaneEntry) (MemoryRecorder CoreEntry)

-- the links that are still to be dialled, and those that were given and taken back
pub record Dialling (R : Type 0) : Type 0 where
  pub dials : List DialPlan
  pub state : DialState (HostLink R)

pub record MemoryHost (R : Type 0) : Type 0 where
  -- the links that are still to be handed out, and those that are still to be dialled
  pub links : List LinkPlan
  pub dials : List DialPlan
  -- the frames that each sync of its devices consumes, and that all syncs of a device consume
  pub each : ℕ
  pub total : ℕ
  -- the limit of its recorders
  pub limit : Limit
  -- the numbers of the calls that will fail, and how many were made
  pub failing : List ℕ
  pub calls : ℕ
  -- its state as a host, and the links that it dialled, for contracts
  pub visible : TheState
  pub dialled : DialState (HostLink R)

-- a host of this header before any call
abbrev pub new_state : List ℕ → TheState
new_state header = record {
  faults = 0;
  overs = 0;
  links = 0;
  device_faults = 0;
  recorder_faults = 0;
  fulls = 0;
  lent = Some (record { devices = 0; recorders = 0; cores = 0 });
  header = Some header;
  started = Some [];
  parts = Some [];
  core_recorders = Some [];
}

-- a start fails exactly where it is listed
abbrev pub StartFails : HeaderRead → Bool → Type 0
StartFails (read.Bytes text) listed = listed ≡ false
StartFails read.NoMemory listed = listed ≡ false
StartFails read.Failed listed = listed ≡ true

-- a call that makes something fails exactly where it is listed
abbrev pub FailsAs : {X : Type 0} → Result X HostFault → Bool → Type 0
FailsAs (Ok x) listed = listed ≡ false
FailsAs (Err fault.NoMemory) listed = listed ≡ false
FailsAs (Err fault.Failed) listed = listed ≡ true

-- what it makes is this
abbrev pub MakesAs : {X : Type 0} → Result X HostFault → X → Bool → Type 0
MakesAs (Ok x) made listed = (listed ≡ false) × (x ≡ made)
MakesAs (Err fault.NoMemory) made listed = listed ≡ false
MakesAs (Err fault.Failed) made listed = listed ≡ true

module _ {R : Type 0} where
  -- no link dialled yet
  abbrev pub new_dial : DialState (HostLink R)
  new_dial = record { given = 0; link_faults = 0; ends = 0; not_yets = 0; hung = Some [] }

  -- whether the next call will fail
  abbrev pub is_failing : MemoryHost R → Bool
  is_failing h = is_listed h.failing (next_count h.calls)

  -- after one more call, with these links still to be handed out
  abbrev pub called : List LinkPlan → TheState → MemoryHost R → MemoryHost R
  called links visible h = record h { links = links; calls = next_count h.calls; visible = visible }

  -- after a connect, with these links still to be dialled
  abbrev pub dialled_by : List DialPlan → DialState (HostLink R) → MemoryHost R → MemoryHost R
  dialled_by dials dialled h = record h { dials = dials; dialled = dialled }

  -- an accept hands out the first link that waits, returns Over exactly where none waits, and fails exactly where it is listed
  abbrev pub HandsOut : Accepted (HostLink R) → Bool → List LinkPlan → List LinkPlan → Type 0
  HandsOut (accepted.Link link) listed before after = (listed ≡ false) × (plan : LinkPlan) × (before ≡ plan ∷ after) × (link ≡ Client (new_link plan))
  HandsOut accepted.Over listed before after = (listed ≡ false) × (before ≡ []) × (after ≡ [])
  HandsOut accepted.NoMemory listed before after = ⊥
  HandsOut accepted.Failed listed before after = (listed ≡ true) × (after ≡ before)

  -- a connect takes the first link that waits, which is gone where there is no memory for it, and fails exactly where it is listed or none waits
  abbrev pub GivesDialled : Connected (HostLink R) → Bool → List DialPlan → List DialPlan → Type 0
  GivesDialled (connected.Link link) listed before after = (listed ≡ false) × (plan : DialPlan) × (before ≡ plan ∷ after) × (link ≡ Dialled (new_dialled plan))
  GivesDialled connected.NoMemory listed before after = (listed ≡ false) × (plan : DialPlan) × (before ≡ plan ∷ after)
  GivesDialled connected.Failed listed before after = (after ≡ before) × ((listed ≡ true) ⊎ ((listed ≡ false) × (before ≡ [])))
