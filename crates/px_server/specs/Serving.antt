-- What a serving call does: to its host, to the sinks of its header, and its status.
use Rattle.std.specs.Prelude.{◌≡◌, ℕ, List, [], ◌∷◌, length, map, Option, None, Some, IsSome, MatchOption}
use Rattle.std.specs.Option.{option_or}
use Rattle.px_types.specs.declared.status.Status.{Status}
use Rattle.px_types.specs.declared.status.Status.TheVariants as status
use Rattle.px_annals.specs.declared.entry.CoreEntry.{CoreEntry}
use Rattle.px_annals.specs.declared.entry.LaneEntry.{LaneEntry}
use Rattle.px_annals.specs.declared.recorder.RecordFault.{RecordFault}
use Rattle.px_annals.specs.declared.stream.PlainStream.{PlainStream}
use Rattle.px_ends.specs.Device.{DeviceState}
use Rattle.px_ends.specs.Host.{HostState}
use Rattle.px_header.specs.declared.header.Header.{Header}
use Rattle.px_state.specs.State.{State, new_state_with}
use Rattle.px_core_cell.specs.Cause.{IsCaused}
use Rattle.px_server.specs.declared.served.LanePart.{LanePart}
use Rattle.px_workers.specs.declared.stop.Stop.{Stop}
use Rattle.px_workers.specs.Hosted.{IsLater, IsCauseOf}
use Rattle.px_server.specs.Hosted.{HasLent}
use Rattle.px_server.specs.Causes.{status_of_fault, decided}
use Rattle.px_workers.specs.Working.{Start}
use Rattle.px_server.specs.Parts.{Worked, starts_of, visible_there, AreParts, IsFrontOf}

-- the status of the first sink whose worker has a fault, in the order of the sinks
abbrev pub first_met : List Worked → Option Status
first_met [] = None
first_met (work ∷ works) = option_or (status_of_fault work.sink_fault) (first_met works)

-- the number of recorders of the core: 0 or 1
abbrev pub cores_in : {C : Type 0} → Option C → ℕ
cores_in None = 0
cores_in (Some recorder) = 1

module _ {D R C : Type 0} (core_visible : C → Option (List CoreEntry)) (core_faults core_fulls : C → ℕ) where
  -- the first cause decides: what made the call stop, then the first fault of the core's recorder, then the faults of the sinks' workers
  pub record IsDecided (before after : HostState D R C) (answered : Status) (works : List Worked) (core : Option C) : Type 0 where
    pub stop : Stop
    pub cause : IsCauseOf stop before after
    pub fault : Option RecordFault
    pub recorder_back : MatchOption core (fault ≡ None) (λ recorder. IsCaused fault (core_faults recorder) (core_fulls recorder))
    pub status : answered ≡ decided stop fault (first_met works)

  -- how a call ends whose sinks have these starts, and whose core began in this state
  pub record Ends (began : State PlainStream) (now : D → DeviceState) (visible : R → Option (List LaneEntry)) (faults fulls : R → ℕ) (starts : List Start)
      (before after : HostState D R C) (answered : Status) (parts : List (LanePart D R)) (core : Option C) : Type 0 where
    pub works : List Worked
    pub all : map (λ w. Worked.start w) works ≡ starts
    pub lanes : AreParts began (visible_there core_visible core) now visible faults fulls works parts
    pub decided : IsDecided before after answered works core

  -- a serving call on the sinks of a header, with this name of the default source, or none
  pub record IsServed (now : D → DeviceState) (visible : R → Option (List LaneEntry)) (faults fulls : R → ℕ) (source : Option (List ℕ)) (header : Header)
      (before after : HostState D R C) (answered : Status) (parts : List (LanePart D R)) (core : Option C) : Type 0 where
    pub later : IsLater before after
    -- the host can take back all that it handed out
    pub lent : HasLent (length parts) (cores_in core) after
    -- the sinks handed back: all of them, where there is a core's recorder, and else those before the first that couldn't be made
    pub starts : List Start
    pub front : IsFrontOf starts (starts_of header.sinks)
    pub all : IsSome core → starts ≡ starts_of header.sinks
    pub ends : Ends (new_state_with source header) now visible faults fulls starts before after answered parts core
    -- where nothing failed, the core's recorder is there
    pub whole : answered ≡ status.Ok → IsSome core
