-- The mixer of the definitions that a sink's mixer in the code stands for.
use Rattle.std.specs.Prelude.{◌≡◌, ◌≤◌, ◌||◌, false, cond, IsFalse, []}
use Rattle.px_ends.specs.MemoryDevice.{state_of}
use Rattle.px_lane.specs.Lane.{IsAttached}
use Rattle.px_world.specs.World.{Mixer}
use Rattle.px_ramp_world.specs.declared.playing.RampPlaying.{RampPlaying}
use Rattle.px_ramp_world.specs.World.{RampedMixer, plain_mixer}

-- the mixer of this state: failing, unless the sink is stopped, where its device will fail or has failed
abbrev pub ramped_mixer_of : RampPlaying → RampedMixer
ramped_mixer_of p = record {
  ramped = p.lane.ramped;
  ramp = p.lane.ramp;
  notices = p.notices.notices;
  failing = cond p.lane.ramped.sink.stopped false (p.lane.device.stopping || p.lane.device.failed);
}

abbrev pub plain_mixer_of : RampPlaying → Mixer
plain_mixer_of p = plain_mixer (ramped_mixer_of p)

-- all that its device has played was collected, while the sink isn't stopped the device plays the sink's frames, and it is known whether the sink has stopped
pub record IsPlaying (p : RampPlaying) : Type 0 where
  pub taken : p.lane.device.played ≡ []
  pub attached : IsFalse p.lane.ramped.sink.stopped → IsAttached (state_of p.lane.device) p.lane.ramped.sink
  pub known : p.stopped ≡ p.lane.ramped.sink.stopped
  pub low_depth : p.lane.ramped.sink.depth ≤ 65536
