-- What an event does to the parts of a world with ramps that runs.
use Rattle.std.specs.Prelude.{◌≡◌, ℕ, List, map, length, None}
use Rattle.std.specs.List.{concat}
use Rattle.px_frame.specs.Progress.{Progress}
use Rattle.px_session.specs.declared.event.Event.{Event}
use Rattle.px_model.specs.Stream.{Stream}
use Rattle.px_state.specs.State.{State}
use Rattle.px_core.specs.Step.{stepped_by, effects_by}
use Rattle.px_world.specs.declared.outcome.Outcome.{Outcome}
use Rattle.px_world.specs.Admission.{refusal_of}
use Rattle.px_world.specs.Event.{all_steps, frames_played, stopped_by}
use Rattle.px_world.specs.Outcome.{IsOutcome}
use Rattle.px_ramp_world.specs.declared.playing.RampPlaying.{RampPlaying}
use Rattle.px_ramp_world.specs.World.{RampedMixer, RampWorld, plain_of}
use Rattle.px_ramp_world.specs.Event.{ramped_after, ramp_world_after}
use Rattle.px_ramp_world.specs.Playing.{ramped_mixer_of}
use Rattle.px_ramp_world.specs.Running.{RampRunning, StandsFor}

-- the world with these parts
abbrev pub running_of : State Stream → List (ℕ × Progress) → List RampPlaying → RampRunning
running_of core doors mixers = record { core = core; doors = doors; mixers = map ramped_mixer_of mixers }

-- an event of a sink was admitted: the core has done its steps, and the sink's mixer its part
pub record Plays (before after : State Stream) (mixers : List RampedMixer) (w : RampWorld) (e : Event) (outcome : Outcome) : Type 0 where
  pub admitted : refusal_of (plain_of w) e ≡ None
  pub core : after ≡ stepped_by Stream.spec before (all_steps (plain_of w) e)
  pub mixed : mixers ≡ ramped_after w e
  pub caused : outcome.effects ≡ effects_by Stream.spec before (all_steps (plain_of w) e)
  pub counted : outcome.frames ≡ length (frames_played (plain_of w) e)
  pub bytes : outcome.played ≡ concat (frames_played (plain_of w) e)
  pub stopped : outcome.stopped ≡ stopped_by (plain_of w) e

-- any event was admitted, with its outcome, and the world after it runs
pub record Runs (after : RampRunning) (w : RampWorld) (e : Event) (outcome : Outcome) : Type 0 where
  pub done : IsOutcome outcome (plain_of w) e
  pub stands : StandsFor after (ramp_world_after w e)
