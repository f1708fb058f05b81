-- The status of a serving call, by the causes that ended it, in the order in which they decide.
use Rattle.std.specs.Prelude.{Option, None, Some}
use Rattle.px_types.specs.declared.status.Status.{Status}
use Rattle.px_types.specs.declared.status.Status.TheVariants as status
use Rattle.px_annals.specs.declared.recorder.RecordFault.{RecordFault}
use Rattle.px_annals.specs.declared.recorder.RecordFault.TheVariants as record_fault
use Rattle.px_workers.specs.declared.stop.Stop.{Stop}
use Rattle.px_workers.specs.declared.stop.Stop.TheVariants as stop
use Rattle.px_workers.specs.declared.sink_state.SinkFault.{SinkFault}
use Rattle.px_workers.specs.declared.sink_state.SinkFault.TheVariants as sink_fault

abbrev pub status_of_record : RecordFault → Status
status_of_record record_fault.NoMemory = status.Memory
status_of_record (record_fault.Full entries bytes) = status.HistoryFull
status_of_record record_fault.Failed = status.Host

abbrev pub status_of_fault : SinkFault → Option Status
status_of_fault sink_fault.Nothing = None
status_of_fault sink_fault.Stopped = Some status.Device
status_of_fault (sink_fault.Unrecorded fault) = Some (status_of_record fault)

-- the status of the sinks' workers, where no earlier cause decides
abbrev pub met_or_fine : Option Status → Status
met_or_fine None = status.Ok
met_or_fine (Some answered) = answered

-- the first fault of the core's recorder, and then the status of the sinks' workers
abbrev pub recorded_or_met : Option RecordFault → Option Status → Status
recorded_or_met (Some fault) sink_fault = status_of_record fault
recorded_or_met None sink_fault = met_or_fine sink_fault

-- the status of a core's recorder that isn't ready
abbrev pub recorded : Option RecordFault → Status
recorded (Some fault) = status_of_record fault
recorded None = status.Memory

-- the status of a call: what made the call itself stop comes first
abbrev pub decided : Stop → Option RecordFault → Option Status → Status
decided stop.Over fault sink_fault = recorded_or_met fault sink_fault
decided stop.Memory fault sink_fault = status.Memory
decided stop.Host fault sink_fault = status.Host
decided (stop.Unrecorded why) fault sink_fault = recorded fault

-- the status of a call that has made no core
abbrev pub undecided : Stop → Status
undecided stop.Over = status.Memory
undecided stop.Memory = status.Memory
undecided stop.Host = status.Host
undecided (stop.Unrecorded why) = status.Memory
