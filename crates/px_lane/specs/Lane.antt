-- A sink's mixer over the device that plays its frames.
use Rattle.std.specs.Prelude.{◌≡◌, ℕ, ◌≤◌, Bool, true, false, IsTrue, List, Option, Some, None}
use Rattle.std.specs.List.{concat}
use Rattle.std.specs.FinMap as map
use Rattle.px_types.specs.Faults.{next_count}
use Rattle.px_ends.specs.Visible.{after_adding, WhereVisible}
use Rattle.px_ends.specs.Device.{DeviceState, Fails}
use Rattle.px_model.specs.Frame.{frame_size}
use Rattle.px_model.specs.Sink.{Sink, IsSink, specs_of}
use Rattle.px_lane.specs.Whole.{AreFramesOf}

pub record Mixer (D : Type 0) : Type 0 where
  pub sink : Sink
  -- what plays its frames
  pub device : D
  -- how many syncs of the device failed
  pub faults : ℕ

-- the invariant of a sink whose frames are bytes
pub record IsLane (sink : Sink) : Type 0 where
  pub holds : IsSink sink
  pub few : map.len (specs_of sink.inputs) ≤ 256
  pub low_depth : sink.depth ≤ 65536
  pub some_bytes : 1 ≤ frame_size sink.spec
  pub whole : AreFramesOf (frame_size sink.spec) sink.buffer

-- a device that plays a sink's frames: its counts are the sink's, and so is its buffer, where that is visible
pub record IsAttached (device : DeviceState) (sink : Sink) : Type 0 where
  pub frame : device.frame ≡ frame_size sink.spec
  pub guard : device.guard ≡ sink.guard
  pub depth : device.depth ≡ sink.depth
  pub consumed : device.consumed ≡ sink.consumed
  pub filled : device.filled ≡ sink.filled
  pub buffer : WhereVisible device.buffer (λ bytes. bytes ≡ concat sink.buffer)

-- what a device has played once it played `bytes` too, where that is visible; it isn't where its buffer isn't
abbrev pub played_more : Option (List ℕ) → Option (List ℕ) → List ℕ → Option (List ℕ)
played_more None played bytes = None
played_more (Some buffer) played bytes = after_adding played bytes

-- in the turn that stops the lane the device's sync failed; after it the device isn't called any more
abbrev pub StopsOver : {D : Type 0} → Bool → (D → DeviceState) → Mixer D → Mixer D → Type 0
StopsOver true now before after = (after.device ≡ before.device) × (after.faults ≡ before.faults)
StopsOver false now before after = Fails (now before.device) (now after.device) × (after.faults ≡ next_count before.faults)

-- one that has stopped has counted a failed sync
abbrev pub HasCounted : Sink → ℕ → Type 0
HasCounted sink faults = IsTrue sink.stopped → 1 ≤ faults
