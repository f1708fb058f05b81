-- A ramped sink over the device that plays its frames, and what a turn does, by its answer.
use Rattle.std.specs.Prelude.{◌≡◌, ℕ, ◌-◌, ◌*◌, ◌≤◌, IsFalse, List, ◌++◌, length}
use Rattle.std.specs.List.{concat}
use Rattle.px_ends.specs.Device.{DeviceState, Consumes, is_failing}
use Rattle.px_msg.specs.View.{sample_spec}
use Rattle.px_model.specs.Frame.{frame_size, frames_of}
use Rattle.px_model.specs.Stream.{Stream}
use Rattle.px_model.specs.Message.{Message}
use Rattle.px_model.specs.Notice.{Notice}
use Rattle.px_model.specs.Sink.{Sink}
use Rattle.px_model.specs.Turn.{turn_notices, stopped_notices, played_by}
use Rattle.px_stream.specs.Samples.{samples}
use Rattle.px_lane.specs.Mixing.{IsMixed}
use Rattle.px_lane.specs.Lane.{Mixer, IsLane, IsAttached, StopsOver, played_more}
use Rattle.px_lane.specs.declared.lane.Turned.{Turned}
use Rattle.px_lane.specs.declared.lane.Turned.TheVariants.{Played, Stopped}
use Rattle.px_ramp.specs.declared.ramps.InputRamps.{InputRamps}
use Rattle.px_ramp.specs.RampMix.{RampSink, ramp_turned, ramp_stopped}
use Rattle.px_ramp.specs.Table.{HeldFrames, AreWide}

-- ---- a sink and the bytes that it mixes by ramps

-- a plain sink with other frames in its buffer, which are these bytes, and with ramps
abbrev pub ramped_of : Sink → List InputRamps → List ℕ → RampSink
ramped_of sink ramps bytes = record {
  sink = record sink { buffer = frames_of (frame_size sink.spec) (sink.filled - sink.consumed) bytes };
  ramps = ramps;
}

-- how a plain sink, with its guard and the frames that are as mixed, stands to the ramps and bytes beside it
pub record IsRamped (sink : Sink) (unaltered guard : ℕ) (held : HeldFrames) : Type 0 where
  pub lane : IsLane sink
  pub all_mixed : unaltered ≡ sink.filled - sink.horizon
  pub guarded : guard ≡ sink.guard
  pub mixed : IsMixed held.spec
  pub same_spec : sample_spec held.spec ≡ sink.spec
  pub same_depth : held.depth ≡ sink.depth
  pub some : 1 ≤ held.ramp
  pub wide : AreWide held.spec.channels held.ramps
  pub full : length held.bytes ≡ (sink.filled - sink.consumed) * frame_size sink.spec

-- a ramped sink, how many frames a ramp takes, for how many more inputs its ramps have room, and how many more messages, with how many blocks in all, its
-- inputs take without memory
pub record RoomyRampSink : Type 0 where
  pub ramped : RampSink
  pub ramp : ℕ
  pub ramp_room : ℕ
  pub room : ℕ
  pub block_room : ℕ

-- ---- over a device

pub record RampMixer (D : Type 0) : Type 0 where
  pub ramped : RampSink
  -- how many frames a ramp takes
  pub ramp : ℕ
  -- what plays its frames
  pub device : D
  -- how many syncs of the device failed
  pub faults : ℕ

-- its sink and device without the ramps
abbrev pub without_ramping : {D : Type 0} → RampMixer D → Mixer D
without_ramping l = record { sink = l.ramped.sink; device = l.device; faults = l.faults }

-- ---- a turn

-- a turn whose sync consumed `frames` frames, after which `consumed` are consumed in all
pub record RampPlays {D : Type 0} (now : D → DeviceState) (before after : RampMixer D) (messages : List (Message Stream)) (consumed frames : ℕ) : Type 0 where
  pub going : IsFalse before.ramped.sink.stopped
  pub there : frames ≤ before.ramped.sink.filled - before.ramped.sink.consumed
  pub visible : Consumes (now before.device).next (before.ramped.sink.filled - before.ramped.sink.consumed) frames
  pub turned : after.ramped ≡ ramp_turned samples before.ramp before.ramped frames messages
  pub same_ramp : after.ramp ≡ before.ramp
  pub counted : consumed ≡ after.ramped.sink.consumed
  pub attached : IsAttached (now after.device) after.ramped.sink
  pub device_going : IsFalse (now after.device).failed
  pub played : (now after.device).played ≡ played_more (now before.device).buffer (now before.device).played (concat (played_by before.ramped.sink frames))
  pub device_faults : (now after.device).faults ≡ (now before.device).faults
  pub steady : is_failing (now after.device).next ≡ is_failing (now before.device).next
  pub same_faults : after.faults ≡ before.faults

-- a turn whose sync failed, or that came after such a turn
pub record RampStops {D : Type 0} (now : D → DeviceState) (before after : RampMixer D) (messages : List (Message Stream)) (faults : ℕ) : Type 0 where
  pub stopped : after.ramped ≡ ramp_stopped before.ramp before.ramped messages
  pub same_ramp : after.ramp ≡ before.ramp
  pub device : StopsOver before.ramped.sink.stopped now (without_ramping before) (without_ramping after)
  pub counted : faults ≡ after.faults
  -- so a sync failed, in this turn or an earlier one
  pub cause : 1 ≤ faults

-- what a turn does, and its notices, by its answer: the notices are those of the plain turn
abbrev pub RampTurns : {D : Type 0} → (D → DeviceState) → RampMixer D → RampMixer D → List (Message Stream) → List (Notice Stream) → List (Notice Stream) → Turned → Type 0
RampTurns now before after messages notices notices' (Played consumed frames) =
    RampPlays now before after messages consumed frames × (notices' ≡ notices ++ turn_notices samples before.ramped.sink frames messages)
RampTurns now before after messages notices notices' (Stopped faults) =
    RampStops now before after messages faults × (notices' ≡ notices ++ stopped_notices before.ramped.sink messages)
