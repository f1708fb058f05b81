-- A world with ramps as it runs: of each link it holds no bytes, only the state of its decoder.
use Rattle.std.specs.Prelude.{◌≡◌, ℕ, List}
use Rattle.px_frame.specs.Progress.{Progress}
use Rattle.px_model.specs.Stream.{Stream}
use Rattle.px_state.specs.State.{State}
use Rattle.px_world.specs.Running.{Open, AreDistinct}
use Rattle.px_ramp_world.specs.World.{RampedMixer, RampWorld}

pub record RampRunning : Type 0 where
  pub core : State Stream
  -- the decoder of each link, by the connection's number
  pub doors : List (ℕ × Progress)
  pub mixers : List RampedMixer

-- its state is this world
pub record StandsFor (running : RampRunning) (w : RampWorld) : Type 0 where
  pub core : running.core ≡ w.core
  pub doors : Open running.doors w.links
  pub distinct : AreDistinct w.links
  pub mixers : running.mixers ≡ w.mixers
