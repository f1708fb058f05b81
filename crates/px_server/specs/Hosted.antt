-- What a serving call has of its host.
use Rattle.std.specs.Prelude.{◌≡◌, ℕ, ◌+◌, ◌≤◌, IfSome}
use Rattle.std.specs.Option.{option_map}
use Rattle.px_ends.specs.Host.{HostState, Lent}
use Rattle.px_ends.specs.declared.host.HostFault.{HostFault}
use Rattle.px_ends.specs.declared.host.HostFault.TheVariants as host_fault
use Rattle.px_workers.specs.declared.stop.Stop.{Stop}
use Rattle.px_workers.specs.declared.stop.Stop.TheVariants.{Memory, Host}

-- the stop for a host's fault
abbrev pub stop_by : HostFault → Stop
stop_by host_fault.NoMemory = Memory
stop_by host_fault.Failed = Host

-- the host has made this many devices with their recorders, and this many recorders of the core, and hasn't taken them back, where that is visible
abbrev pub HasLent : {D R C : Type 0} → ℕ → ℕ → HostState D R C → Type 0
HasLent parts cores h = IfSome h.lent (λ l. (parts ≤ Lent.devices l) × (parts ≤ Lent.recorders l) × (cores ≤ Lent.cores l))

-- so many devices with their recorders more, and so many of the core's
abbrev pub lent_with : ℕ → ℕ → Lent → Lent
lent_with parts cores l = record { devices = l.devices + parts; recorders = l.recorders + parts; cores = l.cores + cores }

-- it has made exactly these, and taken none back, where it tells
abbrev pub Lends : {D R C : Type 0} → ℕ → ℕ → HostState D R C → HostState D R C → Type 0
Lends parts cores before after = after.lent ≡ option_map (lent_with parts cores) before.lent
