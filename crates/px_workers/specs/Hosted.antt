-- What workers that start, and clients that come, do to the host.
use Rattle.std.specs.Prelude.{◌≡◌, ◌≤◌, ⊤}
use Rattle.px_types.specs.Faults.{Rose}
use Rattle.px_ends.specs.Host.{HostState}
use Rattle.px_workers.specs.declared.stop.Stop.{Stop}
use Rattle.px_workers.specs.declared.stop.Stop.TheVariants.{Over, Memory, Host, Unrecorded}

-- the cause of this stop isn't the host
abbrev pub IsOwn : Stop → Type 0
IsOwn Over = ⊥
IsOwn Memory = ⊤
IsOwn Host = ⊥
IsOwn (Unrecorded fault) = ⊤

module _ {D R C : Type 0} where
  -- no count has fallen, and all but the counts of calls is unchanged
  pub record IsLater (before after : HostState D R C) : Type 0 where
    pub faults : before.faults ≤ after.faults
    pub overs : before.overs ≤ after.overs
    pub links : before.links ≤ after.links
    pub device_faults : after.device_faults ≡ before.device_faults
    pub recorder_faults : after.recorder_faults ≡ before.recorder_faults
    pub fulls : after.fulls ≡ before.fulls
    pub header : after.header ≡ before.header
    pub started : after.started ≡ before.started
    pub parts : after.parts ≡ before.parts
    pub cores : after.core_recorders ≡ before.core_recorders

  -- no call of it has failed
  abbrev pub IsCalm : HostState D R C → HostState D R C → Type 0
  IsCalm before after = after.faults ≡ before.faults

  -- what made the serving call stop has its cause in the host: no link comes any more only where it said so, and none of its calls failed
  abbrev pub IsCauseOf : Stop → HostState D R C → HostState D R C → Type 0
  IsCauseOf Over before after = Rose before.overs after.overs × IsCalm before after
  IsCauseOf Memory before after = ⊤
  IsCauseOf Host before after = Rose before.faults after.faults
  IsCauseOf (Unrecorded fault) before after = ⊤
