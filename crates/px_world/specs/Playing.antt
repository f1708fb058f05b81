-- The model's mixer of a sink's mixer in the code.
use Rattle.std.specs.Prelude.{◌≡◌, ◌≤◌, ◌||◌, false, cond, IsFalse, []}
use Rattle.px_ends.specs.MemoryDevice.{state_of}
use Rattle.px_lane.specs.Lane.{IsAttached}
use Rattle.px_world.specs.declared.playing.Playing.{Playing}
use Rattle.px_world.specs.World.{Mixer}

-- the mixer of this state: failing, unless the sink is stopped, where its device will fail or has failed
abbrev pub mixer_of : Playing → Mixer
mixer_of p = record { sink = p.lane.sink; notices = p.notices.notices; failing = cond p.lane.sink.stopped false (p.lane.device.stopping || p.lane.device.failed) }

-- all that its device has played was collected, while the sink isn't stopped the device plays the sink's frames, and it is known whether the sink has stopped
pub record IsPlaying (p : Playing) : Type 0 where
  pub taken : p.lane.device.played ≡ []
  pub attached : IsFalse p.lane.sink.stopped → IsAttached (state_of p.lane.device) p.lane.sink
  pub known : p.stopped ≡ p.lane.sink.stopped
  pub low_depth : p.lane.sink.depth ≤ 65536
