-- The outcome of a sink's notice (PulseAudio: `sink_input_process_msg` of pulsecore/protocol-native.c; which notices fit is own).
use Rattle.std.specs.Prelude.{ℕ, Bool, cond, ◌&&◌, nat_eq, List, length, slice_get, Option, None, Some, ⊤}
use Rattle.std.specs.List.{find}
use Rattle.px_types.specs.declared.ids.InputId.{InputId}
use Rattle.px_types.specs.declared.ids.SinkId.{SinkId}
use Rattle.px_model.specs.Frame.{SampleSpec}
use Rattle.px_msg.specs.declared.notice.Notice.{Notice}
use Rattle.px_msg.specs.declared.notice.Notice.TheVariants.{Request, Overflow, Underflow, Started, Drained, Detached, Latency}
use Rattle.px_flat.specs.FlatVolume.{FlatGroup}
use Rattle.px_msg.specs.declared.message.Msg.{Msg}
use Rattle.px_outcome.specs.declared.input.Connection.{Connection}
use Rattle.px_outcome.specs.declared.input.Standing.{Standing}
use Rattle.px_outcome.specs.declared.input.Standing.TheVariants.{Settled, Moving, Leaving}
use Rattle.px_outcome.specs.declared.target.Target.{Target}
use Rattle.px_outcome.specs.Outcome.{idle}
use Rattle.px_ctl_play.specs.Arrival.{Arriving, hands_over, arrive, arriving_with}
use Rattle.px_outcome.specs.declared.input.Input.{Input}
use Rattle.px_ctl_play.specs.declared.notified.News.{News}
use Rattle.px_ctl_play.specs.declared.notified.News.TheVariants as news
use Rattle.px_ctl_play.specs.declared.timing.Progress.{Progress}
use Rattle.px_ctl_play.specs.Drain.{drained}
use Rattle.px_ctl_play.specs.Latency.{measured}
use Rattle.px_ctl_play.specs.Notified.{notified, left}
use Rattle.px_state.specs.State.{State}
use Rattle.px_core.specs.Connecting.{going_on}
use Rattle.px_state.specs.Outcome.{CoreOutcome}
use Rattle.px_state.specs.Delayed.{delayed_of}
use Rattle.px_sinks.specs.Sinks.{rate_on, target_at}

-- the input with an index, where it is on the sink
abbrev pub is_on : SinkId → InputId → Input → Bool
is_on sink index x = nat_eq x.index.0 index.0 && nat_eq x.sink.0 sink.0

abbrev pub input_on : List Input → SinkId → InputId → Option Input
input_on inputs sink index = find (is_on sink index) inputs

-- the connection of an input, where both exist and it is live
abbrev pub owner_of : List Connection → Option Input → Option Connection
owner_of connections None = None
owner_of connections (Some x) = going_on connections x.conn

-- a notice about an input that is on the sink
abbrev pub notified_of : {P : Type 0} → State P → Option Input → News → CoreOutcome P
notified_of state input news = notified input (owner_of state.connections input) news

-- a request about it is answered, where it waits
abbrev pub drained_of : {P : Type 0} → State P → Option Input → ℕ → CoreOutcome P
drained_of state input tag = drained input (owner_of state.connections input) state.waiting tag

abbrev pub measured_of : {P : Type 0} → State P → Option Input → SinkId → ℕ → Progress → CoreOutcome P
measured_of state input sink tag progress = measured input (owner_of state.connections input) state.waiting (rate_on state.sinks sink) tag progress

-- ---- a sink has detached a stream

-- where the sink and both groups exist: the input is settled on the sink that it moves to
abbrev pub arrival_between : {P : Type 0} → State P → Input → Option Target → Option FlatGroup → Option FlatGroup → Option (Arriving (Msg P) FlatGroup)
arrival_between state x None from group = None
arrival_between state x (Some sink) None group = None
arrival_between state x (Some sink) (Some from) None = None
arrival_between state x (Some sink) (Some from) (Some group) =
    arrive x from group sink (owner_of state.connections (Some x)) state.inputs (length (delayed_of state.delayed x.index))

abbrev pub arrival_at : {P : Type 0} → State P → SinkId → Input → Option (Arriving (Msg P) FlatGroup)
arrival_at state to x = arrival_between state x (target_at state.sinks to) (slice_get state.groups x.sink.0) (slice_get state.groups to.0)

abbrev pub arrived_with : {P : Type 0} → InputId → P → Option (Arriving (Msg P) FlatGroup) → CoreOutcome P
arrived_with index parcel None = idle
arrived_with index parcel (Some arrival) = arriving_with index parcel arrival

-- an input that has ended is removed; where the stream wasn't to be detached nothing happens
abbrev pub left_of : {P : Type 0} → (P → SampleSpec) → State P → SinkId → Option Input → P → CoreOutcome P
left_of spec_of state sink input parcel = left input (slice_get state.groups sink.0) (spec_of parcel) state.inputs

-- and one that moves is settled on the sink that it moves to
abbrev pub given_up_by : {P : Type 0} → (P → SampleSpec) → State P → SinkId → Input → P → Standing → CoreOutcome P
given_up_by spec_of state sink x parcel Settled = left_of spec_of state sink (Some x) parcel
given_up_by spec_of state sink x parcel (Moving to) =
    cond (hands_over (spec_of parcel) x) (arrived_with x.index parcel (arrival_at state to x)) (left_of spec_of state sink (Some x) parcel)
given_up_by spec_of state sink x parcel Leaving = left_of spec_of state sink (Some x) parcel

abbrev pub given_up : {P : Type 0} → (P → SampleSpec) → State P → SinkId → Option Input → P → CoreOutcome P
given_up spec_of state sink None parcel = idle
given_up spec_of state sink (Some x) parcel = given_up_by spec_of state sink x parcel x.standing

-- it is about a stream that stays on the sink
abbrev pub IsNews : {P : Type 0} → Notice P → Type 0
IsNews (Detached input parcel) = ⊥
IsNews _ = ⊤

-- the outcome of a notice, by the input that is on the sink
abbrev pub notice_answer : {P : Type 0} → (P → SampleSpec) → State P → SinkId → Notice P → CoreOutcome P
notice_answer spec_of state sink (Request input frames) = notified_of state (input_on state.inputs sink input) (news.Request frames)
notice_answer spec_of state sink (Overflow input) = notified_of state (input_on state.inputs sink input) news.Overflow
notice_answer spec_of state sink (Underflow input) = notified_of state (input_on state.inputs sink input) news.Underflow
notice_answer spec_of state sink (Started input) = notified_of state (input_on state.inputs sink input) news.Started
notice_answer spec_of state sink (Drained input tag) = drained_of state (input_on state.inputs sink input) tag
notice_answer spec_of state sink (Detached input parcel) = given_up spec_of state sink (input_on state.inputs sink input) parcel
notice_answer spec_of state sink (Latency input tag write read buffered playing run) =
    measured_of state (input_on state.inputs sink input) sink tag (record { write = write; read = read; buffered = buffered; playing = playing; run = run })
