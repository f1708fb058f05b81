-- What a turn of a lane does, by its answer.
use Rattle.std.specs.Prelude.{◌≡◌, ℕ, ◌-◌, ◌^◌, ◌<◌, ◌≤◌, IsFalse, List, ◌++◌}
use Rattle.std.specs.List.{concat}
use Rattle.px_ends.specs.Device.{DeviceState, Consumes, is_failing}
use Rattle.px_model.specs.Stream.{Stream}
use Rattle.px_model.specs.Message.{Message}
use Rattle.px_model.specs.Notice.{Notice}
use Rattle.px_model.specs.Turn.{turned, turn_notices, stopped_turn, stopped_notices, played_by}
use Rattle.px_stream.specs.Samples.{samples}
use Rattle.px_lane.specs.Lane.{Mixer, IsAttached, StopsOver, played_more}
use Rattle.px_lane.specs.declared.lane.Turned.{Turned}
use Rattle.px_lane.specs.declared.lane.Turned.TheVariants.{Played, Stopped}
use Rattle.px_lane.specs.declared.lane.LaneFault.{LaneFault}
use Rattle.px_lane.specs.declared.lane.LaneFault.TheVariants.{NoMemory, Worn}

-- a turn whose sync consumed `frames` frames, after which `consumed` are consumed in all
pub record Plays {D : Type 0} (now : D → DeviceState) (before after : Mixer D) (messages : List (Message Stream)) (consumed frames : ℕ) : Type 0 where
  pub going : IsFalse before.sink.stopped
  pub there : frames ≤ before.sink.filled - before.sink.consumed
  pub visible : Consumes (now before.device).next (before.sink.filled - before.sink.consumed) frames
  pub sink : after.sink ≡ turned samples before.sink frames messages
  pub counted : consumed ≡ after.sink.consumed
  pub attached : IsAttached (now after.device) after.sink
  pub device_going : IsFalse (now after.device).failed
  pub played : (now after.device).played ≡ played_more (now before.device).buffer (now before.device).played (concat (played_by before.sink frames))
  pub device_faults : (now after.device).faults ≡ (now before.device).faults
  pub steady : is_failing (now after.device).next ≡ is_failing (now before.device).next
  pub faults : after.faults ≡ before.faults

-- a turn whose sync failed, or that came after such a turn
pub record Stops {D : Type 0} (now : D → DeviceState) (before after : Mixer D) (messages : List (Message Stream)) (faults : ℕ) : Type 0 where
  pub sink : after.sink ≡ stopped_turn before.sink messages
  pub device : StopsOver before.sink.stopped now before after
  pub counted : faults ≡ after.faults
  -- so a sync failed, in this turn or an earlier one
  pub cause : 1 ≤ faults

-- what a turn does, and its notices, by its answer
abbrev pub Turns : {D : Type 0} → (D → DeviceState) → Mixer D → Mixer D → List (Message Stream) → List (Notice Stream) → List (Notice Stream) → Turned → Type 0
Turns now before after messages notices notices' (Played consumed frames) =
    Plays now before after messages consumed frames × (notices' ≡ notices ++ turn_notices samples before.sink frames messages)
Turns now before after messages notices notices' (Stopped faults) =
    Stops now before after messages faults × (notices' ≡ notices ++ stopped_notices before.sink messages)

-- why there was no turn, with `filled` frames filled: out of memory, or filled above the last index, 2 ^ 60
abbrev pub Refuses : ℕ → LaneFault → Type 0
Refuses filled NoMemory = filled ≤ 2 ^ 60
Refuses filled (Worn count) = (2 ^ 60 < filled) × (count ≡ filled)
