-- The status of how the command `ctl` ends, and what the log has of it.
use Rattle.std.specs.Prelude.{◌≡◌, ◌⊎◌, ℕ, Bool, true, false, List, ◌++◌, codes, decimal, Option}
use Rattle.px_types.specs.declared.status.Status.{Status}
use Rattle.px_types.specs.declared.status.Status.TheVariants as status
use Rattle.px_types.specs.Faults.{Rose}
use Rattle.px_ends.specs.Visible.{after_adding}
use Rattle.px_ends.specs.Whole.{AddsFront}
use Rattle.px_client.specs.declared.end.ClientEnd.{ClientEnd}
use Rattle.px_client.specs.declared.end.ClientEnd.TheVariants as ends
use Rattle.px_client.specs.Listing.{log_text}
use Rattle.px_ctl.specs.declared.end.ControlEnd.{ControlEnd}
use Rattle.px_ctl.specs.declared.end.ControlEnd.TheVariants.{Refused, ReadFault, Ended}

abbrev pub client_status : ClientEnd → Status
client_status ends.Ok = status.Ok
client_status ends.Memory = status.Memory
client_status ends.WriteFault = status.WriteFault
client_status ends.Host = status.Host
client_status (ends.Denied code) = status.Denied
client_status (ends.BadReply at) = status.BadReply
client_status ends.Gone = status.Gone
client_status ends.Silent = status.Silent

abbrev pub status_of : ControlEnd → Status
status_of (Refused at) = status.Refused
status_of ReadFault = status.ReadFault
status_of (Ended end) = client_status end

abbrev pub is_done : ControlEnd → Bool
is_done (Ended ends.Ok) = true
is_done other = false

-- the line that the log has of it, with its line end
abbrev pub line_of : ControlEnd → List ℕ
line_of (Refused at) = codes "pulse_rw: refused at " ++ decimal at ++ codes ": cookie\n"
line_of ReadFault = codes "pulse_rw: read failed\n"
line_of (Ended end) = codes "pulse_rw: " ++ log_text end ++ codes "\n"

abbrev pub memory_line : List ℕ
memory_line = codes "pulse_rw: out of memory\n"

-- the log gained the line of a status; or a write of it failed, after a front of the line
abbrev pub Logs : Status → List ℕ → Status → Option (List ℕ) → Option (List ℕ) → ℕ → ℕ → Type 0
Logs said line answered held held' faults faults' =
    ((answered ≡ said) × (held' ≡ after_adding held line) × (faults' ≡ faults))
    ⊎ ((answered ≡ status.WriteFault) × AddsFront line held held' × Rose faults faults')

-- how it ended was reported; or there was no memory for the line, and that was reported. Nothing is where all went well
abbrev pub ControlReported : ControlEnd → Status → Option (List ℕ) → Option (List ℕ) → ℕ → ℕ → Type 0
ControlReported (Ended ends.Ok) answered held held' faults faults' = (answered ≡ status.Ok) × (held' ≡ held) × (faults' ≡ faults)
ControlReported end answered held held' faults faults' =
    Logs (status_of end) (line_of end) answered held held' faults faults' ⊎ Logs status.Memory memory_line answered held held' faults faults'
