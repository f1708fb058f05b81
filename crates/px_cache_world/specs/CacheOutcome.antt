-- The outcome of an event in the code's world with a sample cache.
use Rattle.std.specs.Prelude.{◌≡◌, None, length}
use Rattle.std.specs.List.{concat}
use Rattle.px_session.specs.declared.event.Event.{Event}
use Rattle.px_world.specs.declared.outcome.Outcome.{Outcome}
use Rattle.px_world.specs.Admission.{refusal_of}
use Rattle.px_world.specs.Event.{frames_played, stopped_by}
use Rattle.px_sieve.specs.Scene.{shown_by}
use Rattle.px_cache_world.specs.declared.parts.Parts.{Parts}
use Rattle.px_cache_world.specs.Sampler.{Sampler, sampler_refusal, sampler_after, sampler_effects, lone_items, after_lone, open_effects, StandsForSampler}

-- the event was admitted; these are its effects, the frames that it played with their bytes, and the filled count of a sink that it stopped
pub record IsCacheOutcome (outcome : Outcome) (s : Sampler) (e : Event) : Type 0 where
  pub admitted : sampler_refusal s e ≡ None
  pub effects : outcome.effects ≡ sampler_effects s e
  pub frames : outcome.frames ≡ length (frames_played s.world e)
  pub played : outcome.played ≡ concat (frames_played s.world e)
  pub stopped : outcome.stopped ≡ stopped_by s.world e

-- an event that the world gets as it is
pub record HasLone (parts : Parts) (s : Sampler) (e : Event) (outcome : Outcome) : Type 0 where
  pub admitted : refusal_of s.world e ≡ None
  pub effects : outcome.effects ≡ open_effects (shown_by s.world (lone_items s e))
  pub frames : outcome.frames ≡ length (frames_played s.world e)
  pub played : outcome.played ≡ concat (frames_played s.world e)
  pub stopped : outcome.stopped ≡ stopped_by s.world e
  pub stands : StandsForSampler parts (after_lone s e)

-- the event was admitted, with its outcome, and the parts stand for the state after it
pub record HasDone (parts : Parts) (s : Sampler) (e : Event) (outcome : Outcome) : Type 0 where
  pub done : IsCacheOutcome outcome s e
  pub stands : StandsForSampler parts (sampler_after s e)
