-- The outcome of an event in the code's world.
use Rattle.std.specs.Prelude.{◌≡◌, None, length}
use Rattle.std.specs.List.{concat}
use Rattle.px_session.specs.declared.event.Event.{Event}
use Rattle.px_world.specs.declared.outcome.Outcome.{Outcome}
use Rattle.px_world.specs.World.{World}
use Rattle.px_world.specs.Admission.{refusal_of}
use Rattle.px_world.specs.Event.{effects_after, frames_played, stopped_by}

-- the event was admitted; these are its effects, the frames that it played with their bytes, and the filled count of a sink that it stopped
pub record IsOutcome (outcome : Outcome) (w : World) (e : Event) : Type 0 where
  pub admitted : refusal_of w e ≡ None
  pub effects : outcome.effects ≡ effects_after w e
  pub frames : outcome.frames ≡ length (frames_played w e)
  pub played : outcome.played ≡ concat (frames_played w e)
  pub stopped : outcome.stopped ≡ stopped_by w e
