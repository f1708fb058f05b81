-- What each status of a run says.
use Rattle.std.specs.Prelude.{◌≡◌, ◌≢◌, ◌⊎◌}
use Rattle.px_types.specs.declared.status.Status.{Status}
use Rattle.px_types.specs.declared.status.Status.TheVariants as status
use Rattle.px_types.specs.Faults.{Rose}
use Rattle.px_ends.specs.Visible.{after_adding, WhereVisible}
use Rattle.px_ends.specs.Whole.{AddsFront}
use Rattle.px_app.specs.declared.ending.Ending.{Ending}
use Rattle.px_app.specs.declared.ending.Ending.TheVariants as ending
use Rattle.px_app.specs.declared.refusal.Refusal.{Refusal}
use Rattle.px_app.specs.Ending.{status_of, line_of, IsReplayStatus}
use Rattle.px_app.specs.Ends.{Ends, Log, SameOrRose}
use Rattle.px_app.specs.Mode.{Mode}
use Rattle.px_app.specs.Played.{PlayedWhole, WasRefused, WasUnnamed, PlayedFront, InputCounted, Played, Completes}
use Rattle.px_app.specs.Refusal.{refusal_line}
use Rattle.px_app.specs.Report.{Says}

-- a write of the output failed, and the log has the line of it
pub record OutputFailed (before after : Ends) (log_before log_after : Log) : Type 0 where
  pub reads : after.read_faults ≡ before.read_faults
  pub writes : Rose before.write_faults after.write_faults
  pub quiet : log_after.faults ≡ log_before.faults
  pub line : log_after.held ≡ after_adding log_before.held (line_of ending.WriteFault)

-- a write of the log failed, after a front of the line of how the run ended
pub record LineFailed (before after : Ends) (log_before log_after : Log) : Type 0 where
  pub ended : Ending
  pub said : Ending
  pub says : Says ended said
  pub counted : InputCounted ended before after
  pub line : AddsFront (line_of said) log_before.held log_after.held
  pub rose : Rose log_before.faults log_after.faults

-- which calls failed, and what the log gained
pub record IsAccounted (answered : Status) (before after : Ends) (log_before log_after : Log) : Type 0 where
  -- with every status but those of a failed read or write no call failed
  pub quiet : answered ≢ status.ReadFault → answered ≢ status.WriteFault
      → (after.read_faults ≡ before.read_faults) × (after.write_faults ≡ before.write_faults) × (log_after.faults ≡ log_before.faults)
  pub read_fault : answered ≡ status.ReadFault
      → Rose before.read_faults after.read_faults × SameOrRose before.write_faults after.write_faults × (log_after.faults ≡ log_before.faults)
  pub write_fault : answered ≡ status.WriteFault → OutputFailed before after log_before log_after ⊎ LineFailed before after log_before log_after
  -- the log's line is the status's
  pub line : answered ≢ status.WriteFault → (ended : Ending) × (answered ≡ status_of ended) × (log_after.held ≡ after_adding log_before.held (line_of ended))

-- no call failed
abbrev pub NoneRose : Ends → Ends → Log → Log → Type 0
NoneRose before after log_before log_after =
    (Rose before.read_faults after.read_faults → ⊥) × (Rose before.write_faults after.write_faults → ⊥) × (Rose log_before.faults log_after.faults → ⊥)

-- An input was played in this mode, and the status says what was done of it.
pub record Plays {W A L : Type 0} (mode : Mode W A L) (asked : A) (answered : Status) (before after : Ends) (log_before log_after : Log) : Type 0 where
  -- what was read and written, which calls failed, and what was reported; all else follows from it
  pub exact : Played mode asked answered before after log_before log_after
  pub ok : answered ≡ status.Ok → PlayedWhole mode asked before after
  pub refused : answered ≡ status.Refused
      → (refusal : Refusal) × WasRefused mode asked refusal before after × (log_after.held ≡ after_adding log_before.held (refusal_line refusal))
  pub no_such_sink : answered ≡ status.NoSuchSink → WasUnnamed mode asked before after
  -- with each other status the output gained a front of what is shown of the bytes that were read
  pub front : PlayedFront mode asked before after
  pub accounted : IsAccounted answered before after log_before log_after
  pub others : IsReplayStatus answered
  -- where no call fails, a session that is played ends so, unless memory ran out, and each other input is refused
  pub complete : NoneRose before after log_before log_after → WhereVisible before.left (Completes mode asked answered)
