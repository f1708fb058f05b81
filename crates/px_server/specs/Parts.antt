-- What is left of a server's sinks.
use Rattle.std.specs.Prelude.{◌≡◌, ℕ, ◌+◌, List, [], ◌∷◌, ◌++◌, Option, None, Some, IfSome, ⊤}
use Rattle.std.specs.List.{concat}
use Rattle.px_types.specs.declared.ids.SinkId.{SinkId}
use Rattle.px_annals.specs.declared.entry.CoreEntry.{CoreEntry}
use Rattle.px_annals.specs.declared.entry.LaneEntry.{LaneEntry}
use Rattle.px_annals.specs.declared.stream.PlainStream.{PlainStream}
use Rattle.px_ends.specs.Visible.{WhereVisible}
use Rattle.px_ends.specs.Device.{DeviceState}
use Rattle.px_model.specs.Sink.{Sink, empty_sink}
use Rattle.px_model.specs.Deciding.{replay_played, IsHistory}
use Rattle.px_msg.specs.View.{sample_spec}
use Rattle.px_header.specs.declared.header.SinkSpec.{SinkSpec}
use Rattle.px_stream.specs.Samples.{samples}
use Rattle.px_state.specs.State.{State}
use Rattle.px_core_cell.specs.declared.ends.CoreEnd.{CoreEnd}
use Rattle.px_core_cell.specs.Cell.{ends_of}
use Rattle.px_core_cell.specs.History.{IsAgreed}
use Rattle.px_lane_cell.specs.Meaning.{history_meant}
use Rattle.px_lane_cell.specs.History.{left_at_stop, ArePlayed}
use Rattle.px_server.specs.declared.served.LanePart.{LanePart}
use Rattle.px_workers.specs.declared.sink_state.SinkFault.{SinkFault}
use Rattle.px_workers.specs.Working.{Start, start_of, IsFaultOf, Unworked}
pub use Rattle.px_server.specs.Delivered.{IsFrontOf}
use Rattle.px_server.specs.Delivered.{IsDelivered}

-- the sink of a header's entry
abbrev pub sink_for : SinkSpec → Sink
sink_for s = empty_sink (sample_spec (SinkSpec.spec s)) (SinkSpec.guard s) (SinkSpec.depth s)

-- how the sink of an entry with this index begins
abbrev pub start_for : SinkId → SinkSpec → Start
start_for index s = record { index = index; sink = sink_for s }

-- the same for all entries, the first of which has this index
abbrev pub starts_from : ℕ → List SinkSpec → List Start
starts_from index [] = []
starts_from index (s ∷ sinks) = start_for (record { 0 = index }) s ∷ starts_from (index + 1) sinks

abbrev pub starts_of : List SinkSpec → List Start
starts_of sinks = starts_from 0 sinks

-- a device has played what these entries of its sink's history say: all frames that they play, and where it failed, a front of those that waited then
pub record HasPlayed (start : Sink) (device : DeviceState) (entries : List LaneEntry) : Type 0 where
  pub turns : IsHistory samples start (history_meant entries)
  pub played : WhereVisible device.played (ArePlayed (concat (replay_played samples start (history_meant entries))) (concat (left_at_stop start (history_meant entries))))

-- a sink's work: its start, and the first fault of its worker
pub record Worked : Type 0 where
  pub start : Start
  pub sink_fault : SinkFault

abbrev pub worked : Start → SinkFault → Worked
worked start sink_fault = record { start = start; sink_fault = sink_fault }

-- the work of a sink not owned by a running worker
abbrev pub unworked : {D E : Type 0} → Unworked D E → Worked
unworked u = worked (start_of u) u.sink_fault

-- the visible entries of the core's recorder, where there is one
abbrev pub visible_there : {C : Type 0} → (C → Option (List CoreEntry)) → Option C → Option (List CoreEntry)
visible_there visible None = None
visible_there visible (Some recorder) = visible recorder

module _ {D R : Type 0} (began : State PlainStream) (core : Option (List CoreEntry)) (now : D → DeviceState) (visible : R → Option (List LaneEntry)) (faults fulls : R → ℕ) where
  -- what is left of a sink: its device has played what its recorder holds, where both are visible; its worker's fault has its cause in them; and
  -- where the core's recorder is visible too, what was taken on either side is a front of what was handed out on the other
  pub record IsPart (work : Worked) (part : LanePart D R) : Type 0 where
    pub sink : part.sink ≡ work.start.index
    pub played : IfSome (visible part.recorder) (HasPlayed work.start.sink (now part.device))
    pub delivered : IfSome core (λ entries. IfSome (visible part.recorder) (IsDelivered began entries work.start.index work.start.sink))
    pub sink_fault : IsFaultOf (now part.device).faults (faults part.recorder) (fulls part.recorder) work.sink_fault

  -- what is left of sinks, in their order
  abbrev pub AreParts : List Worked → List (LanePart D R) → Type 0
  AreParts [] [] = ⊤
  AreParts [] (part ∷ parts) = ⊥
  AreParts (work ∷ works) [] = ⊥
  AreParts (work ∷ works) (part ∷ parts) = IsPart work part × AreParts works parts

-- a front of some items was appended
abbrev pub Adds : {X : Type 0} → List X → List X → List X → Type 0
Adds before more after = (added : List _) × IsFrontOf added more × (after ≡ before ++ added)

-- sinks and the core's ends of their mailboxes, in the same order: what was posted to each sink and taken from it is as in the core's entries
abbrev pub AreAgreed : {D E : Type 0} → State PlainStream → Option (List CoreEntry) → List (Unworked D E) → List CoreEnd → Type 0
AreAgreed began core [] [] = ⊤
AreAgreed began core [] (end ∷ ends) = ⊥
AreAgreed began core (u ∷ idle) [] = ⊥
AreAgreed began core (u ∷ idle) (end ∷ ends) = IfSome core (λ entries. IsAgreed began entries u.sink.0 (ends_of end)) × AreAgreed began core idle ends
