-- What a cell's call for a turn does, by its answer.
use Rattle.std.specs.Prelude.{◌≡◌, ℕ, ◌^◌, ◌≤◌, ◌<◌, List, [], ◌++◌, length, Option, None, Some, Result, Ok, Err, ⊤}
use Rattle.px_annals.specs.declared.entry.LaneEntry.{LaneEntry}
use Rattle.px_annals.specs.declared.recorder.RecordFault.{RecordFault}
use Rattle.px_annals.specs.History.{Limit, noted, SaysFull}
use Rattle.px_ends.specs.Device.{DeviceState}
use Rattle.px_model.specs.Stream.{Stream}
use Rattle.px_model.specs.Message.{Message}
use Rattle.px_model.specs.Notice.{Notice}
use Rattle.px_model.specs.Deciding.{sink_after, notices_of as notices_by}
use Rattle.px_stream.specs.Samples.{samples}
use Rattle.px_lane.specs.declared.lane.Turned.{Turned}
use Rattle.px_lane.specs.declared.lane.Turned.TheVariants.{Played, Stopped}
use Rattle.px_lane.specs.Lane.{Mixer}
use Rattle.px_lane.specs.Turned.{Turns}
use Rattle.px_lane_cell.specs.declared.fault.CellFault.{CellFault}
use Rattle.px_lane_cell.specs.declared.fault.CellFault.TheVariants.{NoMemory, Worn, Recorder}
use Rattle.px_lane_cell.specs.Meaning.{messages_meant, entry_meant}
use Rattle.px_lane_cell.specs.Moved.{Takes, AreAll, Posts, AreGone}
use Rattle.px_lane_cell.specs.Cell.{Cell, taken_in, posted_in, found_in, stored_in, key_in}

-- the frames that a turn's sync consumed, None where the sink has stopped
abbrev pub consumed_in : Turned → Option ℕ
consumed_in (Played consumed frames) = Some frames
consumed_in (Stopped faults) = None

-- a turn with its entry: it holds all of these messages, and its replay gives the sink and the notices after it
pub record IsNoted {D : Type 0} (now : D → DeviceState) (before after : Mixer D) (messages : List (Message Stream)) (noticed noticed' : List (Notice Stream)) (turned : Turned) (entry : LaneEntry) : Type 0 where
  pub consumed : entry.consumed ≡ consumed_in turned
  pub whole : messages_meant entry.messages ≡ messages
  pub sink : after.sink ≡ sink_after samples before.sink (entry_meant entry)
  pub notices : noticed' ≡ noticed ++ notices_by samples before.sink (entry_meant entry)
  pub turns : Turns now before after messages noticed noticed' turned

-- one entry is recorded, and no message stays
pub record Makes {D R : Type 0} (now : D → DeviceState) (visible : R → Option (List LaneEntry)) (before after : Cell D R) (turned : Turned) : Type 0 where
  pub entry : LaneEntry
  -- all messages of the turn, and all notices after it
  pub messages : List (Message Stream)
  pub notices : List (Notice Stream)
  pub takes : Takes (taken_in before.ends) (taken_in after.ends) before.messages.messages messages
  pub all : AreAll (found_in before.ends) (found_in after.ends) (key_in after.ends) (taken_in after.ends) messages
  pub turn : IsNoted now before.lane after.lane messages before.notices.notices notices turned entry
  pub recorded : visible after.recorder ≡ noted entry (visible before.recorder)
  pub counted : after.taken ≡ length entry.messages
  pub given : after.given ≡ length notices
  pub none_held : after.messages.messages ≡ []
  pub posts : Posts (posted_in before.ends) (posted_in after.ends) notices after.notices.notices
  pub gone : AreGone (stored_in before.ends) (stored_in after.ends) (posted_in after.ends) after.notices.notices

-- there is no turn: the messages that were taken stay, and nothing else changes
pub record Keeps {D R : Type 0} (visible : R → Option (List LaneEntry)) (before after : Cell D R) : Type 0 where
  pub takes : Takes (taken_in before.ends) (taken_in after.ends) before.messages.messages after.messages.messages
  pub lane : after.lane ≡ before.lane
  pub recorded : visible after.recorder ≡ visible before.recorder
  pub counted : after.taken ≡ before.taken
  pub given : after.given ≡ before.given
  pub notices : after.notices.notices ≡ before.notices.notices
  pub posted : after.ends.passes.post ≡ before.ends.passes.post

-- ---- why there was no turn

-- the recorder's answer by the cell's answer, where it was asked: it was ready wherever it isn't the cause
abbrev pub recorder_said : Result Turned CellFault → Result ⊤ RecordFault
recorder_said (Ok turned) = Ok tt
recorder_said (Err NoMemory) = Ok tt
recorder_said (Err (Worn filled)) = Ok tt
recorder_said (Err (Recorder fault)) = Err fault

-- a cause of the recorder agrees with its limit and sizes; a turn is made only where it isn't full
abbrev pub SaysWhy : Result Turned CellFault → Option Limit → Option (List ℕ) → Type 0
SaysWhy (Ok turned) limit sizes = SaysFull {A = ⊤} (Ok tt) limit sizes
SaysWhy (Err NoMemory) limit sizes = ⊤
SaysWhy (Err (Worn filled)) limit sizes = SaysFull {A = ⊤} (Ok tt) limit sizes
SaysWhy (Err (Recorder fault)) limit sizes = SaysFull {A = ⊤} (Err fault) limit sizes

-- a mixer is worn where `filled` is above the last index, and no such mixer makes a turn
abbrev pub IsWorn : Result Turned CellFault → ℕ → Type 0
IsWorn (Ok turned) filled = filled ≤ 2 ^ 60
IsWorn (Err NoMemory) filled = ⊤
IsWorn (Err (Worn count)) filled = (2 ^ 60 < filled) × (count ≡ filled)
IsWorn (Err (Recorder fault)) filled = ⊤
