-- The steps of the core, each with the state after it and its effects.
use Rattle.std.specs.Prelude.{ℕ, List, [], ◌∷◌, ◌++◌, Option, None, Some}
use Rattle.std.specs.List.{fold}
use Rattle.px_types.specs.declared.ids.ConnId.{ConnId}
use Rattle.px_types.specs.declared.ids.SinkId.{SinkId}
use Rattle.px_model.specs.Frame.{SampleSpec}
use Rattle.px_frame.specs.declared.fault.FrameFault.{FrameFault}
use Rattle.px_frame.specs.Fault.{code_of}
use Rattle.px_outcome.specs.declared.sending.Reason.TheVariants.{Protocol, Cut}
use Rattle.px_frame.specs.declared.frame.Frame.{Frame}
use Rattle.px_frame.specs.declared.frame.Body.{Body}
use Rattle.px_frame.specs.declared.frame.Body.TheVariants.{Control, Write}
use Rattle.px_msg.specs.declared.notice.Notice.{Notice}
use Rattle.px_outcome.specs.Outcome.{idle}
use Rattle.px_ctl_play.specs.Data.{data_for}
use Rattle.px_state.specs.declared.effect.Effect.{Effect}
use Rattle.px_outcome.specs.declared.input.Connection.{Connection}
use Rattle.px_state.specs.State.{State, connection_of, stream_of}
use Rattle.px_state.specs.Outcome.{CoreOutcome, outcome_effects}
use Rattle.px_state.specs.Events.{step_events}
pub use Rattle.px_state.specs.Answered.{answered, answer_effects}
use Rattle.px_core.specs.Command.{packet_answer}
use Rattle.px_core.specs.Connecting.{connected, connect_effects, going_on, ended, sweep_of}
use Rattle.px_core.specs.Notice.{notice_answer}
use Rattle.px_state.specs.Out.{handed_out}

-- one frame of a live connection
abbrev pub body_answer : {P : Type 0} → State P → Connection → ℕ → Body → CoreOutcome P
body_answer state c at (Control packet) = packet_answer state c at packet
body_answer state c at (Write stream offset seek bytes) = data_for (stream_of state.inputs c.conn stream) offset seek bytes

abbrev pub frame_of : {P : Type 0} → State P → Option Connection → Frame → CoreOutcome P
frame_of state None frame = idle
frame_of state (Some c) frame = body_answer state c frame.at frame.body

-- a frame; ignored where its connection doesn't exist, or has ended
abbrev pub frame_answer : {P : Type 0} → State P → ConnId → Frame → CoreOutcome P
frame_answer state conn frame = frame_of state (going_on state.connections conn) frame

pub data Step (P : Type 0) : Type 0 where
  -- a client connects
  connect : ConnId → Step P
  -- a frame of a connection
  frame : ConnId → Frame → Step P
  -- a fault in a connection's bytes, at an offset
  broken : ConnId → FrameFault → ℕ → Step P
  -- a client has closed its connection
  close : ConnId → Step P
  -- the server ends a connection for lack of memory
  cut : ConnId → Step P
  -- the connections that have ended are removed
  sweep : Step P
  -- a notice of a sink
  notice : SinkId → Notice P → Step P
  -- the first message queued for a sink is handed to it
  out : SinkId → Step P

-- the outcome of a step, where spec_of reads a parcel's sample spec; a client that connects and a message that is handed out have no outcome of this
-- kind
abbrev pub answer_of : {P : Type 0} → (P → SampleSpec) → State P → Step P → CoreOutcome P
answer_of spec_of state (connect conn) = idle
answer_of spec_of state (frame conn f) = frame_answer state conn f
answer_of spec_of state (broken conn fault at) = ended (going_on state.connections conn) (Some Protocol) (code_of fault) at
answer_of spec_of state (close conn) = ended (going_on state.connections conn) None 0 0
answer_of spec_of state (cut conn) = ended (going_on state.connections conn) (Some Cut) 0 0
answer_of spec_of state sweep = sweep_of state
answer_of spec_of state (notice sink n) = notice_answer spec_of state sink n
answer_of spec_of state (out sink) = idle

-- the state after a step
abbrev pub stepped : {P : Type 0} → (P → SampleSpec) → State P → Step P → State P
stepped spec_of state (connect conn) = connected (connection_of state.connections conn) conn state
stepped spec_of state (frame conn f) = answered state (answer_of spec_of state (frame conn f))
stepped spec_of state (broken conn fault at) = answered state (answer_of spec_of state (broken conn fault at))
stepped spec_of state (close conn) = answered state (answer_of spec_of state (close conn))
stepped spec_of state (cut conn) = answered state (answer_of spec_of state (cut conn))
stepped spec_of state sweep = answered state (answer_of spec_of state sweep)
stepped spec_of state (notice sink n) = answered state (answer_of spec_of state (notice sink n))
stepped spec_of state (out sink) = handed_out sink state

-- the connection that a step is of, where it is of an existing one
abbrev pub sender_of : {P : Type 0} → Step P → Option ConnId
sender_of (connect conn) = None
sender_of (frame conn f) = Some conn
sender_of (broken conn fault at) = Some conn
sender_of (close conn) = Some conn
sender_of (cut conn) = Some conn
sender_of sweep = None
sender_of (notice sink n) = None
sender_of (out sink) = None

-- the effects of a client that connects; where no more are accepted it is ended without an outcome
abbrev pub admitted_effects : {P : Type 0} → Option Connection → ConnId → State P → List Effect
admitted_effects c conn state = connect_effects c conn state ++ step_events state (connected c conn state)

-- its effects, in order; a connection that is only marked, and a message that is handed out, change no info
abbrev pub effects_of : {P : Type 0} → (P → SampleSpec) → State P → Step P → List Effect
effects_of spec_of state (connect conn) = admitted_effects (connection_of state.connections conn) conn state
effects_of spec_of state (frame conn f) = answer_effects (Some conn) state (answer_of spec_of state (frame conn f))
effects_of spec_of state (broken conn fault at) = outcome_effects (Some conn) (answer_of spec_of state (broken conn fault at))
effects_of spec_of state (close conn) = outcome_effects (Some conn) (answer_of spec_of state (close conn))
effects_of spec_of state (cut conn) = outcome_effects (Some conn) (answer_of spec_of state (cut conn))
effects_of spec_of state sweep = answer_effects None state (answer_of spec_of state sweep)
effects_of spec_of state (notice sink n) = answer_effects None state (answer_of spec_of state (notice sink n))
effects_of spec_of state (out sink) = []

-- all of them, one after the other
abbrev pub stepped_by : {P : Type 0} → (P → SampleSpec) → State P → List (Step P) → State P
stepped_by spec_of state steps = fold (stepped spec_of) state steps

abbrev pub effects_by : {P : Type 0} → (P → SampleSpec) → State P → List (Step P) → List Effect
effects_by spec_of state [] = []
effects_by spec_of state (s ∷ steps) = effects_of spec_of state s ++ effects_by spec_of (stepped spec_of state s) steps
