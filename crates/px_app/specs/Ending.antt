-- How a run ends, its status, and the line that the log has of it.
use Rattle.std.specs.Prelude.{◌≡◌, ◌≢◌, ℕ, List, [], codes, ⊤}
use Rattle.px_types.specs.declared.status.Status.{Status}
use Rattle.px_types.specs.declared.status.Status.TheVariants as status
use Rattle.px_app.specs.declared.ending.Ending.{Ending}
use Rattle.px_app.specs.declared.ending.Ending.TheVariants as ending
use Rattle.px_app.specs.Refusal.{refusal_line}

abbrev pub status_of : Ending → Status
status_of ending.Done = status.Ok
status_of (ending.Refused refusal) = status.Refused
status_of ending.Usage = status.Usage
status_of ending.Memory = status.Memory
status_of ending.ReadFault = status.ReadFault
status_of ending.WriteFault = status.WriteFault
status_of ending.NoSuchSink = status.NoSuchSink

-- the statuses of a run are those of the endings
abbrev pub IsRunStatus : Status → Type 0
IsRunStatus answered = (ended : Ending) × (answered ≡ status_of ended)

-- and a replay has words that are its own
abbrev pub IsReplayStatus : Status → Type 0
IsReplayStatus answered = (ended : Ending) × (ended ≢ ending.Usage) × (answered ≡ status_of ended)

-- nothing where all went well
abbrev pub line_of : Ending → List ℕ
line_of ending.Done = []
line_of (ending.Refused refusal) = refusal_line refusal
line_of ending.Usage = codes "pulse_rw: usage: replay [--raw SINK | --monitor | --samples | --ramp FRAMES], summary, convert, gen NUMBER COUNT, serve OPTIONS, ctl --socket PATH COMMAND\n"
line_of ending.Memory = codes "pulse_rw: out of memory\n"
line_of ending.ReadFault = codes "pulse_rw: read failed\n"
line_of ending.WriteFault = codes "pulse_rw: write failed\n"
line_of ending.NoSuchSink = codes "pulse_rw: no such sink\n"

abbrev pub IsRefusal : Ending → Type 0
IsRefusal (ending.Refused refusal) = ⊤
IsRefusal other = ⊥
