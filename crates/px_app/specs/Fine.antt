-- What status Ok says of a serving call's host.
use Rattle.std.specs.Prelude.{◌≡◌}
use Rattle.px_types.specs.Faults.{Rose}
use Rattle.px_ends.specs.Host.{HostState}

-- no link comes any more; no call of the host failed, and of what it took back no device and no recorder had failed, and no recorder had been found full
pub record IsFine {D R C : Type 0} (before after : HostState D R C) : Type 0 where
  pub over : Rose before.overs after.overs
  pub faults : after.faults ≡ before.faults
  pub device_faults : after.device_faults ≡ before.device_faults
  pub recorder_faults : after.recorder_faults ≡ before.recorder_faults
  pub fulls : after.fulls ≡ before.fulls
