-- Why a recorder isn't ready for a step: its answer, and its first fault, which has its cause in its own counts.
use Rattle.std.specs.Prelude.{◌≡◌, ℕ, ◌≤◌, List, Option, None, Some, Result, Ok, Err, ⊤}
use Rattle.std.specs.Option.{option_or, option_map}
use Rattle.px_annals.specs.History.{Limit, sizes_by, SaysFull, ReadyCounts}
use Rattle.px_annals.specs.Size.{size_of_core_entry}
use Rattle.px_annals.specs.declared.entry.CoreEntry.{CoreEntry}
use Rattle.px_annals.specs.declared.recorder.RecordFault.{RecordFault}
use Rattle.px_annals.specs.declared.recorder.RecordFault.TheVariants.{Full, Failed}
use Rattle.px_core_cell.specs.declared.step.StepFault.{StepFault}
use Rattle.px_core_cell.specs.declared.step.StepFault.TheVariants.{NoMemory, Worn, Recorder, Owed}

-- it found itself full, or failed, at least once, as its first fault says; and where it had no fault, it never was full and never failed
pub record IsCaused (fault : Option RecordFault) (faults fulls : ℕ) : Type 0 where
  pub full : (entries bytes : ℕ) → fault ≡ Some (Full entries bytes) → 1 ≤ fulls
  pub failed : fault ≡ Some Failed → 1 ≤ faults
  pub none : fault ≡ None → (faults ≡ 0) × (fulls ≡ 0)

-- it isn't ready for a step; its first fault stays
abbrev pub ReadyFails : StepFault → Option RecordFault → Option RecordFault → Type 0
ReadyFails e before after = (why : RecordFault) × (e ≡ Recorder why) × (after ≡ option_or before (Some why))

-- a step that isn't noted leaves the first fault as it was, but where the recorder isn't ready
abbrev pub Unnoted : StepFault → Option RecordFault → Option RecordFault → Type 0
Unnoted NoMemory before after = after ≡ before
Unnoted Worn before after = ⊥
Unnoted (Recorder why) before after = after ≡ option_or before (Some why)
Unnoted (Owed back) before after = ⊥

-- ---- its answer when it was asked, by the result of the step

module _ {C : Type 0} (limit : C → Option Limit) (visible : C → Option (List CoreEntry)) (faults fulls : C → ℕ) where
  -- the answer is right by its limit and content, and is counted
  abbrev pub Answered : Result ⊤ RecordFault → C → C → Type 0
  Answered answer before after =
      SaysFull answer (limit before) (option_map (sizes_by size_of_core_entry) (visible before))
      × (limit after ≡ limit before)
      × ReadyCounts answer (faults before) (faults after) (fulls before) (fulls after)

  -- it wasn't asked, or was ready
  abbrev pub IsCalm : C → C → Type 0
  IsCalm before after = (limit after ≡ limit before) × (faults after ≡ faults before) × (fulls after ≡ fulls before)

  -- it was ready for the step that was done, and is the cause where the result says so
  abbrev pub Says : {A : Type 0} → Result A StepFault → C → C → Type 0
  Says (Ok answer) before after = Answered (Ok tt) before after
  Says (Err NoMemory) before after = IsCalm before after
  Says (Err Worn) before after = IsCalm before after
  Says (Err (Recorder why)) before after = Answered (Err why) before after
  Says (Err (Owed back)) before after = IsCalm before after

  -- where there was nothing to do, it wasn't asked
  abbrev pub StepSays : {A : Type 0} → Result (Option A) StepFault → C → C → Type 0
  StepSays (Ok None) before after = IsCalm before after
  StepSays (Ok (Some done)) before after = Answered (Ok tt) before after
  StepSays (Err fault) before after = Says {A = ⊤} (Err fault) before after
