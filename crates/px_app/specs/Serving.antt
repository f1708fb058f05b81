-- What the words of `serve` do, and what the log gains of it.
use Rattle.std.specs.Prelude.{◌≡◌, ◌⊎◌, ℕ, List, [], Option, codes}
use Rattle.px_types.specs.declared.status.Status.{Status}
use Rattle.px_types.specs.declared.status.Status.TheVariants as status
use Rattle.px_types.specs.Faults.{Rose}
use Rattle.px_annals.specs.declared.entry.CoreEntry.{CoreEntry}
use Rattle.px_annals.specs.declared.entry.LaneEntry.{LaneEntry}
use Rattle.px_ends.specs.Device.{DeviceState}
use Rattle.px_ends.specs.Host.{HostState}
use Rattle.px_ends.specs.Visible.{after_adding}
use Rattle.px_ends.specs.Whole.{AddsFront}
use Rattle.px_app.specs.declared.serve.call.ServeEnd.{ServeEnd}
use Rattle.px_app.specs.declared.serve.call.ServeEnd.TheVariants as serve
use Rattle.px_app.specs.Serves.{ServesBy}
use Rattle.px_app.specs.Tape.{Output}
use Rattle.px_app.specs.declared.ending.Ending.TheVariants as ending
use Rattle.px_app.specs.declared.refusal.Why.TheVariants as why
use Rattle.px_app.specs.Ends.{Log}
use Rattle.px_app.specs.Report.{Reported}

-- the line of a server's status: nothing where all went well
abbrev pub line_of_status : Status → List ℕ
line_of_status status.Memory = codes "pulse_rw: out of memory\n"
line_of_status status.Device = codes "pulse_rw: device failed\n"
line_of_status status.Host = codes "pulse_rw: host failed\n"
line_of_status status.HistoryFull = codes "pulse_rw: history full\n"
line_of_status status.WriteFault = codes "pulse_rw: write failed\n"
line_of_status other = []

-- the log gained the line of a status; or a write of it failed, after a front of the line
abbrev pub StatusReported : Status → Status → Log → Log → Type 0
StatusReported ended answered before after =
    ((answered ≡ ended) × (after.held ≡ after_adding before.held (line_of_status ended)) × (after.faults ≡ before.faults))
    ⊎ ((answered ≡ status.WriteFault) × AddsFront (line_of_status ended) before.held after.held × Rose before.faults after.faults)

-- how serving ended, as the log reports it
abbrev pub EndReported : ServeEnd → Status → Log → Log → Type 0
EndReported serve.Usage answered before after = Reported ending.Usage answered before after
EndReported (serve.Refused at cause) answered before after = Reported (ending.Refused (record { at = at; why = why.Session cause })) answered before after
EndReported (serve.Ended ended) answered before after = StatusReported ended answered before after

-- `serve` ran by these words, with a tape where they ask for one, and its end was reported
pub record Served {D R C : Type 0} (core_visible : C → Option (List CoreEntry)) (core_faults core_fulls : C → ℕ) (now : D → DeviceState) (visible : R → Option (List LaneEntry)) (faults fulls : R → ℕ)
    (texts : List (List ℕ)) (answered : Status) (before after : HostState D R C) (out_before out_after : Output) (log_before log_after : Log) : Type 0 where
  pub end : ServeEnd
  pub serves : ServesBy core_visible core_faults core_fulls now visible faults fulls texts end before after out_before out_after
  pub reported : EndReported end answered log_before log_after
