-- What the work of a sink preserves.
use Rattle.std.specs.Prelude.{◌≡◌, ℕ, ◌≤◌, List, length, map, Bool, false, Option, None, Some, IfSome, IsTrue, ⊤}
use Rattle.std.specs.Option.{is_some}
use Rattle.px_types.specs.declared.ids.SinkId.{SinkId}
use Rattle.px_annals.specs.declared.entry.LaneEntry.{LaneEntry}
use Rattle.px_annals.specs.declared.recorder.RecordFault.TheVariants as record_fault
use Rattle.px_annals.specs.History.{noted}
use Rattle.px_ends.specs.Device.{DeviceState}
use Rattle.px_model.specs.Sink.{Sink}
use Rattle.px_lane_cell.specs.declared.ends.Boxes.{Boxes}
use Rattle.px_lane_cell.specs.Cell.{Cell}
use Rattle.px_lane_cell.specs.History.{unturned}
use Rattle.px_workers.specs.declared.sink_state.SinkFault.{SinkFault}
use Rattle.px_workers.specs.declared.sink_state.SinkFault.TheVariants.{Nothing, Stopped, Unrecorded}
use Rattle.px_workers.specs.declared.sink_state.TurnOutcome.{TurnOutcome}
use Rattle.px_workers.specs.declared.sink_state.TurnOutcome.TheVariants as outcome
use Rattle.px_tape.specs.declared.turns.Turn.{Turn as Made}
use Rattle.px_tape.specs.Tape.{Turns}

-- a worker's fault has its cause in its sink's device or recorder, by their counts of faults and of Fulls; it is `Nothing` only where nothing failed
abbrev pub IsFaultOf : ℕ → ℕ → ℕ → SinkFault → Type 0
IsFaultOf device_faults faults fulls Nothing = (device_faults ≡ 0) × (faults ≡ 0) × (fulls ≡ 0)
IsFaultOf device_faults faults fulls Stopped = 1 ≤ device_faults
IsFaultOf device_faults faults fulls (Unrecorded record_fault.NoMemory) = ⊤
IsFaultOf device_faults faults fulls (Unrecorded (record_fault.Full entries bytes)) = 1 ≤ fulls
IsFaultOf device_faults faults fulls (Unrecorded record_fault.Failed) = 1 ≤ faults

-- the cell of a worker whose first fault so far is `seen`
pub record IsHonest {D E : Type 0} (now : D → DeviceState) (faults fulls : E → ℕ) (cell : Cell D E) (seen : SinkFault) : Type 0 where
  pub sink_fault : IsFaultOf (now cell.lane.device).faults (faults cell.recorder) (fulls cell.recorder) seen
  pub stopped : IsTrue cell.lane.sink.stopped → 1 ≤ (now cell.lane.device).faults

-- a turn as it is recorded for a tape, by the entry of the sink's recorder: what its device consumed, and how many messages it took
abbrev pub made_by : LaneEntry → Made
made_by entry = record { consumed = entry.consumed; take = length entry.messages }

-- where there is a tape, its turns of the sink with this index are all that the sink made; where the recorder is visible they are those of its
-- entries, in the same order
abbrev pub AreTaped : {E : Type 0} → (E → Option (List LaneEntry)) → SinkId → E → Option Turns → Type 0
AreTaped visible sink recorder None = ⊤
AreTaped visible sink recorder (Some t) = (t.sink ≡ sink.0) × (t.failed ≡ false) × IfSome (visible recorder) (λ entries. t.turns ≡ map made_by entries)

-- what the recorder holds after a turn: where the turn was made one more entry, by what the device consumed and the number of messages taken
abbrev pub Notes : {E : Type 0} → (E → Option (List LaneEntry)) → TurnOutcome → E → E → ℕ → Type 0
Notes visible (outcome.Made consumed) before after taken =
    (entry : LaneEntry) × (visible after ≡ noted entry (visible before)) × (made_by entry ≡ record { consumed = consumed; take = taken })
Notes visible outcome.NotYet before after taken = visible after ≡ visible before
Notes visible outcome.Ended before after taken = visible after ≡ visible before

-- a sink not owned by a running worker, with the first fault of its worker, if it had one, and the turns that it made, where there is a tape
pub record Unworked (D E : Type 0) : Type 0 where
  pub sink : SinkId
  pub cell : Cell D E
  pub sink_fault : SinkFault
  pub turns : Option Turns

-- a sink before its first turn, with its index
pub record Start : Type 0 where
  pub index : SinkId
  pub sink : Sink

-- the start of the sink with this index, which may have made turns
abbrev pub start_at : SinkId → Sink → Start
start_at index sink = record { index = index; sink = unturned sink }

abbrev pub start_of : {D E : Type 0} → Unworked D E → Start
start_of u = start_at u.sink u.cell.lane.sink

-- the mailboxes of its cell
abbrev pub mailboxes_of : {D E : Type 0} → Unworked D E → Boxes
mailboxes_of u = u.cell.ends.boxes

-- whether its turns are recorded for a tape
abbrev pub tapes_in : {D E : Type 0} → Unworked D E → Bool
tapes_in u = is_some u.turns

-- what of a sink its worker never changes: how it began, its mailboxes, and whether its turns are recorded for a tape
pub record Lasting : Type 0 where
  pub start : Start
  pub boxes : Boxes
  pub tapes : Bool

abbrev pub lasting_of : {D E : Type 0} → Unworked D E → Lasting
lasting_of u = record { start = start_of u; boxes = mailboxes_of u; tapes = tapes_in u }

-- the work goes on: at the same sink with the same mailboxes, and with a tape where there was one
pub record GoesOn {D E : Type 0} (before after : Unworked D E) : Type 0 where
  pub start : start_of after ≡ start_of before
  pub boxes : mailboxes_of after ≡ mailboxes_of before
  pub tapes : tapes_in after ≡ tapes_in before
