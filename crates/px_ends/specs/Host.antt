-- A host: where the header comes from and the links, what it makes for each sink and for the core, and what it takes back; and the links that it
-- dials. Own.
use Rattle.std.specs.Prelude.{◌≡◌, ℕ, ◌+◌, ◌-◌, ◌^◌, ◌<◌, ◌≤◌, min, false, List, [], length, Option, None, Some, IfSome, Result, Ok, Err}
use Rattle.std.specs.Option.{option_map}
use Rattle.px_types.specs.declared.ids.SinkId.{SinkId}
use Rattle.px_types.specs.Faults.{Rose}
use Rattle.px_annals.specs.History.{noted}
use Rattle.px_ends.specs.declared.device.DeviceShape.{DeviceShape}
use Rattle.px_ends.specs.declared.host.ServeOptions.{ServeOptions}
use Rattle.px_ends.specs.declared.host.HeaderRead.{HeaderRead}
use Rattle.px_ends.specs.declared.host.HeaderRead.TheVariants as read
use Rattle.px_ends.specs.declared.host.Accepted.{Accepted}
use Rattle.px_ends.specs.declared.host.Accepted.TheVariants as accepted
use Rattle.px_ends.specs.declared.host.Connected.{Connected}
use Rattle.px_ends.specs.declared.host.Connected.TheVariants as connected
use Rattle.px_ends.specs.declared.host.HostFault.{HostFault}
use Rattle.px_ends.specs.declared.host.HostFault.TheVariants as fault
use Rattle.px_ends.specs.Visible.{WhereVisible}
use Rattle.px_ends.specs.Links.{LinkCounts, no_counts}
use Rattle.px_ends.specs.Device.{DeviceState}

-- what a host took back of a sink
pub record Part (D R : Type 0) : Type 0 where
  pub sink : SinkId
  pub device : D
  pub recorder : R

-- how many of each kind a host made and hasn't taken back
pub record Lent : Type 0 where
  pub devices : ℕ
  pub recorders : ℕ
  pub cores : ℕ

abbrev pub more_devices : Lent → Lent
more_devices l = record l { devices = l.devices + 1 }

abbrev pub more_recorders : Lent → Lent
more_recorders l = record l { recorders = l.recorders + 1 }

abbrev pub more_cores : Lent → Lent
more_cores l = record l { cores = l.cores + 1 }

-- a sink's device and its recorder were taken back
abbrev pub fewer_parts : Lent → Lent
fewer_parts l = record l { devices = l.devices - 1; recorders = l.recorders - 1 }

abbrev pub fewer_cores : Lent → Lent
fewer_cores l = record l { cores = l.cores - 1 }

-- taking back something with a nonzero count adds one
abbrev pub Counts : ℕ → ℕ → ℕ → Type 0
Counts count before now = (count ≡ 0 → now ≡ before) × (0 < count → Rose before now)

-- with devices D, recorders of sinks R and recorders of the core C
pub record HostState (D R C : Type 0) : Type 0 where
  -- how many of its calls failed, and how often it answered that no link comes any more
  pub faults : ℕ
  pub overs : ℕ
  -- how many links it handed out
  pub links : ℕ
  -- of what it took back: devices that failed, recorders that failed, recorders that were found full
  pub device_faults : ℕ
  pub recorder_faults : ℕ
  pub fulls : ℕ
  -- what it made and hasn't taken back, where visible
  pub lent : Option Lent
  -- the bytes of its header file, the options of each start, and what it took back, each in order and where visible
  pub header : Option (List ℕ)
  pub started : Option (List ServeOptions)
  pub parts : Option (List (Part D R))
  pub core_recorders : Option (List C)

-- the most links that a host hands out
abbrev pub most_links : ℕ
most_links = 65535

-- ---- what it makes

-- a device of this shape that has consumed and played nothing, with nothing put
pub record IsNewDevice (shape : DeviceShape) (d : DeviceState) : Type 0 where
  pub frame : d.frame ≡ shape.frame
  pub guard : d.guard ≡ shape.guard
  pub depth : d.depth ≡ shape.depth
  pub consumed : d.consumed ≡ 0
  pub filled : d.filled ≡ 0
  pub buffer : WhereVisible d.buffer (λ bytes. bytes ≡ [])
  pub played : WhereVisible d.played (λ bytes. bytes ≡ [])
  pub faults : d.faults ≡ 0
  pub going : d.failed ≡ false

-- a new recorder with these entries, where visible, and these counts: it holds none, and never failed or was found full
abbrev pub IsNewRecorder : {E : Type 0} → Option (List E) → ℕ → ℕ → Type 0
IsNewRecorder None faults fulls = (faults ≡ 0) × (fulls ≡ 0)
IsNewRecorder (Some entries) faults fulls = (entries ≡ []) × (faults ≡ 0) × (fulls ≡ 0)

module _ {D R C : Type 0} where
  -- ---- a call that fails

  abbrev pub with_faults : ℕ → HostState D R C → HostState D R C
  with_faults faults h = record h { faults = faults }

  -- one more fault, and no other change
  abbrev pub FailsOnce : HostState D R C → HostState D R C → Type 0
  FailsOnce before after = Rose before.faults after.faults × (after ≡ with_faults after.faults before)

  -- ---- a start

  abbrev pub started_by : ServeOptions → HostState D R C → HostState D R C
  started_by options h = record h { started = noted options h.started }

  -- a start with these options and this answer: the bytes of the header file, or one more fault and no other change
  abbrev pub Starts : HeaderRead → ServeOptions → HostState D R C → HostState D R C → Type 0
  Starts (read.Bytes text) options before after = WhereVisible before.header (λ bytes. text ≡ bytes) × (after ≡ started_by options before)
  Starts read.NoMemory options before after = after ≡ before
  Starts read.Failed options before after = FailsOnce before after

  -- ---- links

  abbrev pub one_link : HostState D R C → HostState D R C
  one_link h = record h { links = h.links + 1 }

  abbrev pub with_overs : ℕ → HostState D R C → HostState D R C
  with_overs overs h = record h { overs = overs }

  -- an accept with this answer
  abbrev pub Accepts : {L : Type 0} → Accepted L → HostState D R C → HostState D R C → Type 0
  Accepts (accepted.Link link) before after = (before.links < most_links) × (after ≡ one_link before)
  Accepts accepted.Over before after = Rose before.overs after.overs × (after ≡ with_overs after.overs before)
  Accepts accepted.NoMemory before after = after ≡ before
  Accepts accepted.Failed before after = FailsOnce before after

  -- ---- what it makes

  -- a call that makes something, by its effect on the host
  abbrev pub Makes : {X : Type 0} → (HostState D R C → HostState D R C) → Result X HostFault → HostState D R C → HostState D R C → Type 0
  Makes made (Ok x) before after = after ≡ made before
  Makes made (Err fault.NoMemory) before after = after ≡ before
  Makes made (Err fault.Failed) before after = FailsOnce before after

  abbrev pub one_device : HostState D R C → HostState D R C
  one_device h = record h { lent = option_map more_devices h.lent }

  abbrev pub one_recorder : HostState D R C → HostState D R C
  one_recorder h = record h { lent = option_map more_recorders h.lent }

  abbrev pub one_core : HostState D R C → HostState D R C
  one_core h = record h { lent = option_map more_cores h.lent }

  -- ---- what it takes back

  -- it made more devices and recorders of sinks than it took back, where visible
  abbrev pub HasPart : HostState D R C → Type 0
  HasPart h = IfSome h.lent (λ l. (1 ≤ l.devices) × (1 ≤ l.recorders))

  -- it made more recorders of the core than it took back, where visible
  abbrev pub HasCore : HostState D R C → Type 0
  HasCore h = IfSome h.lent (λ l. 1 ≤ l.cores)

  abbrev pub took_part : ℕ → ℕ → ℕ → Part D R → HostState D R C → HostState D R C
  took_part device_faults recorder_faults fulls part h = record h {
    lent = option_map fewer_parts h.lent;
    device_faults = device_faults;
    recorder_faults = recorder_faults;
    fulls = fulls;
    parts = noted part h.parts;
  }

  -- it takes back a sink's device, by its count of faults, and its recorder, by its counts of faults and Fulls
  abbrev pub TakesPart : ℕ → ℕ → ℕ → Part D R → HostState D R C → HostState D R C → Type 0
  TakesPart failed faulty full part before after =
      Counts failed before.device_faults after.device_faults × Counts faulty before.recorder_faults after.recorder_faults × Counts full before.fulls after.fulls
      × (after ≡ took_part after.device_faults after.recorder_faults after.fulls part before)

  abbrev pub took_core : ℕ → ℕ → C → HostState D R C → HostState D R C
  took_core recorder_faults fulls recorder h = record h {
    lent = option_map fewer_cores h.lent;
    recorder_faults = recorder_faults;
    fulls = fulls;
    core_recorders = noted recorder h.core_recorders;
  }

  -- it takes back the core's recorder, by its counts of faults and Fulls
  abbrev pub TakesCore : ℕ → ℕ → C → HostState D R C → HostState D R C → Type 0
  TakesCore faulty full recorder before after =
      Counts faulty before.recorder_faults after.recorder_faults × Counts full before.fulls after.fulls
      × (after ≡ took_core after.recorder_faults after.fulls recorder before)

  -- ---- what it dials

  -- a connect with this answer
  abbrev pub Connects : {L : Type 0} → Connected L → HostState D R C → HostState D R C → Type 0
  Connects (connected.Link link) before after = after ≡ before
  Connects connected.NoMemory before after = after ≡ before
  Connects connected.Failed before after = FailsOnce before after

-- a count rose by a number, or is at its last value
pub record RoseBy (more before now : ℕ) : Type 0 where
  pub later : before ≤ now
  pub least : min (before + more) (2 ^ 64 - 1) ≤ now
  pub most : now ≤ before + more

-- the links that a host dialled, each of type L
pub record DialState (L : Type 0) : Type 0 where
  -- how many it gave
  pub given : ℕ
  -- of those that it took back: how often their calls failed, answered the end, or found them not ready
  pub link_faults : ℕ
  pub ends : ℕ
  pub not_yets : ℕ
  -- those that it took back, in order and where visible
  pub hung : Option (List L)

module _ {L : Type 0} where
  -- it gave more links than it took back, where visible
  abbrev pub HasDialled : DialState L → Type 0
  HasDialled d = IfSome d.hung (λ links. length links < d.given)

  abbrev pub one_given : DialState L → DialState L
  one_given d = record d { given = d.given + 1 }

  -- a connect with this answer: a link none of whose calls was counted, which can be taken back, or no change
  abbrev pub Dials : (L → LinkCounts) → Connected L → DialState L → DialState L → Type 0
  Dials counts (connected.Link link) before after = (counts link ≡ no_counts) × (after ≡ one_given before) × HasDialled after
  Dials counts connected.NoMemory before after = after ≡ before
  Dials counts connected.Failed before after = after ≡ before

  abbrev pub took_link : ℕ → ℕ → ℕ → L → DialState L → DialState L
  took_link link_faults ends not_yets link d = record d {
    link_faults = link_faults;
    ends = ends;
    not_yets = not_yets;
    hung = noted link d.hung;
  }

  -- it takes back a link with these counts
  abbrev pub HangsUp : LinkCounts → L → DialState L → DialState L → Type 0
  HangsUp counts link before after =
      RoseBy counts.faults before.link_faults after.link_faults × RoseBy counts.ends before.ends after.ends × RoseBy counts.not_yets before.not_yets after.not_yets
      × (after ≡ took_link after.link_faults after.ends after.not_yets link before)
